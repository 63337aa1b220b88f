-- A run of one step is the step, and its count tells whether it was carried out.
use Rattle.instructions.proofs.Stepping.{run_once}
use Rattle.machine.proofs.calls.step.Goals as goal

pub returns : goal.returns
returns c = run_once c.in_ok-steps.ensures
