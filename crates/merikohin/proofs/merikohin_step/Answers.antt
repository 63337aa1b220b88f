-- A run of one step is the step, and its count, 0 or 1, fits 32 bits; the state that it answers is copied as it is.
use mathlib.Core.Path.{◌∙◌}
use native.Mathlib.Omega.{arith}
use Rattle.lends.proofs.Stepping.{run_is_step, one_at_most}
use Rattle.merikohin.proofs.merikohin_step.Goals as goal

pub overflow_cast-result : goal.overflow_cast-result
overflow_cast-result c = omega (arith, one_at_most c.merikohin_run-ran.ensures)

pub returns : goal.returns
returns c =
    let step = run_is_step c.merikohin_run-ran.ensures in
    record {
      after = step.after;
      carried_out = step.carried_out;
      steps = step.steps;
      counts = step.counts;
      answers = c.state_copied.ensures ∙ step.answers;
    }
