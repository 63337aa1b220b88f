-- No second outcome meets a machine call's promise; and two runs, one after the other, are one run.
use Prim.Native.Nat.{ℕ, ◌+◌}
use mathlib.Core.Path.{◌≡◌, sym, ◌∙◌, ap}
use mathlib.Core.Bool.{Bool}
use mathlib.Core.List.{List}
use Rattle.instructions.specs.declared.State.{State}
use Rattle.instructions.specs.Opcodes.{current}
use Rattle.instructions.specs.Step.{Machine}
use Rattle.instructions.specs.Run.{run, steps, run_number}
use Rattle.instructions.specs.Calls.{Outcome, outcome, Runs, StepsOnce, Fresh}
use Rattle.instructions.proofs.Run.{run-add, steps-add}
use Rattle.instructions.proofs.WellFormed.{run-accepted}

pub runs_unique : {program : List ℕ} {budget : ℕ} {m : Machine} {o o' : Outcome}
    → Runs program budget m o
    → Runs program budget m o'
    → o ≡ o'
runs_unique p q = λ i. record {
  number = (p.answers ∙ sym q.answers) i;
  count = (p.counts ∙ sym q.counts) i;
  after = (p.leaves ∙ sym q.leaves) i;
}

pub steps_once_unique : {program : List ℕ} {m k k' : Machine} {number number' : ℕ} {carried carried' : Bool}
    → StepsOnce program m number carried k
    → StepsOnce program m number' carried' k'
    → (number ≡ number') × (carried ≡ carried') × (k ≡ k')
steps_once_unique p q = (p.answers ∙ sym q.answers, p.carries ∙ sym q.carries, p.leaves ∙ sym q.leaves)

pub fresh_unique : {s t : State} → Fresh s → Fresh t → s ≡ t
fresh_unique p q = p.fresh ∙ sym q.fresh

-- "Running m and then n steps ends as running m + n, where the sum fits, with the counts added.": an accepted run of a steps, then one of
-- b steps from what it left, ends as one of a + b
pub runs-add : {program : List ℕ} {a b : ℕ} {m k l : Machine} {count count' number : ℕ}
    → Runs program a m (outcome 0 count k)
    → Runs program b k (outcome number count' l)
    → (number ≡ 0) × Runs program (a + b) m (outcome 0 (count + count') l)
runs-add {program} {a} {b} {m} {k} {l} {count} {count'} {number} p q =
    (none_again, record { answers = p.answers; counts = rw none counted; leaves = rw none ended })
  where
    none : run_number program m ≡ 0
    none = sym p.answers

    first : k ≡ run current program a m
    first = rw none at p.leaves

    again : run_number program k ≡ 0
    again = ap (run_number program) first ∙ run-accepted current program a m none

    none_again : number ≡ 0
    none_again = q.answers ∙ again

    counted : count + count' ≡ steps current program (a + b) m
    counted =
        let c : count ≡ steps current program a m = rw none at p.counts in
        let d : count' ≡ steps current program b k = rw again at q.counts in
        cc (steps-add current program a b m)

    ended : l ≡ run current program (a + b) m
    ended =
        let e : l ≡ run current program b k = rw again at q.leaves in
        cc (run-add current program a b m)
