-- A single step is a run of one step, and a run of one step is a single step: the count of such a run is 1 where the step is carried out.
use Prim.Native.Nat.{ℕ, ◌≤◌}
use mathlib.Core.Path.{◌≡◌, refl, sym, ◌∙◌, ap}
use mathlib.Core.Bool.{Bool, true, false}
use mathlib.Core.List.{List}
use native.Mathlib.Omega.{arith}
use lib.Dec.{eqb}
use Rattle.rules.specs.Folds.{bit, choose}
use Rattle.rules.specs.Calls.{accepted}
use Rattle.instructions.specs.Opcodes.{current}
use Rattle.instructions.specs.Step.{Machine}
use Rattle.instructions.specs.Run.{is_counted, steps, run_number}
use Rattle.instructions.proofs.Run.{run-one, steps-one}
use Rattle.border.specs.Lent.{number_of}
use Rattle.lends.specs.Lends.{Lent, machine_of, LentOutcome, RunsLent, StepsLent}

-- 1 for a step that is carried out, in both words for it
module _ (program : List ℕ) (m : Machine) where
  one-step : (b : Bool) → choose b (steps current program 1 m) 0 ≡ number_of (choose b (is_counted current program m) false)
  one-step true = steps-one current program m ∙ same (is_counted current program m)
    where
      same : (c : Bool) → bit c ≡ number_of c
      same true = refl
      same false = refl
  one-step false = refl

module _ {program : List ℕ} {l : Lent} {o : LentOutcome} where
  pub step_is_run : StepsLent program l o → RunsLent program 1 l o
  step_is_run s =
      let m = machine_of l in
      let n : ℕ = run_number program m in
      record {
        after = s.after;
        runs = record {
          answers = s.steps.answers;
          counts = s.counts ∙ ap number_of s.steps.carries ∙ sym (one-step program m (eqb n 0));
          leaves = s.steps.leaves ∙ ap (λ k. accepted n k m) (sym (run-one current program m));
        };
        answers = s.answers;
      }

  pub run_is_step : RunsLent program 1 l o → StepsLent program l o
  run_is_step r =
      let m = machine_of l in
      let n : ℕ = run_number program m in
      record {
        after = r.after;
        carried_out = accepted n (is_counted current program m) false;
        steps = record {
          answers = r.runs.answers;
          carries = refl;
          leaves = r.runs.leaves ∙ ap (λ k. accepted n k m) (run-one current program m);
        };
        counts = r.runs.counts ∙ one-step program m (eqb n 0);
        answers = r.answers;
      }

  pub one_at_most : RunsLent program 1 l o → o.count ≤ 1
  one_at_most r = rw (run_is_step r).counts (most (run_is_step r).carried_out)
    where
      most : (b : Bool) → number_of b ≤ 1
      most true = omega arith
      most false = omega arith
