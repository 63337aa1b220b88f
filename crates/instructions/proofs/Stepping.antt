-- One step by a call of its own is a run of one step, and calls of a step, one after the other, are one run: by induction over the calls,
-- since an accepted call's outcome is accepted again, and a refused call leaves all as it was.
use Prim.Native.Nat.{ℕ, zero, suc, ◌+◌, ◌<◌}
use mathlib.Core.Path.{◌≡◌, refl, sym, ◌∙◌, ap, ap₂}
use mathlib.Core.Logic.{◌≢◌}
use mathlib.Core.Bool.{Bool, true, false}
use mathlib.Core.List.{List}
use native.Mathlib.Numerals.{add-one}
use native.Mathlib.Decide.{ℕ_discrete}
use native.Mathlib.Omega.{arith}
use lib.Dec.{eqb}
use Rattle.rules.specs.Folds.{bit, how_many, choose}
use Rattle.rules.specs.Calls.{accepted}
use Rattle.rules.proofs.Choices.{accepted_no, accepted_yes}
use Rattle.instructions.specs.Opcodes.{current}
use Rattle.instructions.specs.Step.{Machine, step}
use Rattle.instructions.specs.Run.{run, is_counted, steps, run_number}
use Rattle.instructions.specs.Calls.{outcome, Runs, StepsOnce}
use Rattle.instructions.proofs.Run.{run_none, run-one, run_more, steps-none, steps-one, steps_more}
use Rattle.instructions.proofs.WellFormed.{run-accepted}

one_or_none : (b : Bool) → eqb (bit b) 1 ≡ b
one_or_none true = refl
one_or_none false = refl

-- a run of one step, told as a step
pub run_once : {program : List ℕ} {m after : Machine} {number count : ℕ}
    → Runs program 1 m (outcome number count after)
    → StepsOnce program m number (eqb count 1) after
run_once {program} {m} {after} {number} {count} r = record {
  answers = r.answers;
  carries = ap (λ c. eqb c 1) r.counts ∙ carried (run_number program m);
  leaves = r.leaves ∙ ap (λ k. accepted (run_number program m) k m) (run-one current program m);
}
  where
    carried : (n : ℕ) → eqb (accepted n (steps current program 1 m) 0) 1 ≡ accepted n (is_counted current program m) false
    carried n = go (eqb n 0)
      where
        go : (b : Bool) → eqb (choose b (steps current program 1 m) 0) 1 ≡ choose b (is_counted current program m) false
        go true = ap (λ c. eqb c 1) (steps-one current program m) ∙ one_or_none (is_counted current program m)
        go false = refl

-- calls of a step in turn: call i is made on the machine k i, answers number i and whether it was carried out, and leaves k (i + 1)
module _ (program : List ℕ) (k : ℕ → Machine) (number : ℕ → ℕ) (carried : ℕ → Bool) where
  abbrev first : ℕ
  first = run_number program (k 0)

  -- none is refused
  module _ (none : first ≡ 0) where
    taken : (n : ℕ)
        → ((i : ℕ) → i < n → StepsOnce program (k i) (number i) (carried i) (k (suc i)))
        → (k n ≡ run current program n (k 0)) × (how_many carried n ≡ steps current program n (k 0))
    unfolding how_many
    taken zero h = (sym (run_none current program (k 0)), sym (steps-none current program (k 0)))
    taken (suc n) h =
        let (same, counted) = taken n (λ i l. h i (omega arith)) in
        let c : StepsOnce program (k n) (number n) (carried n) (k (suc n)) = h n (omega arith) in
        let again : run_number program (k n) ≡ 0 = ap (run_number program) same ∙ run-accepted current program n (k 0) none in
        let done : k (suc n) ≡ step current program (k n) = c.leaves ∙ accepted_yes _ _ _ again in
        let one : carried n ≡ is_counted current program (k n) = c.carries ∙ accepted_yes _ _ _ again in (
          done ∙ ap (step current program) same ∙ sym (run_more current program n (k 0))
              ∙ ap (λ j. run current program j (k 0)) (add-one n),
          ap₂ (λ a b. a + bit b) counted (one ∙ ap (is_counted current program) same)
              ∙ sym (steps_more current program n (k 0))
              ∙ ap (λ j. steps current program j (k 0)) (add-one n),
        )

  -- all are refused
  module _ (d : first ≢ 0) where
    left : (n : ℕ)
        → ((i : ℕ) → i < n → StepsOnce program (k i) (number i) (carried i) (k (suc i)))
        → (k n ≡ k 0) × (how_many carried n ≡ 0)
    unfolding how_many
    left zero h = (refl, refl)
    left (suc n) h =
        let (same, counted) = left n (λ i l. h i (omega arith)) in
        let c : StepsOnce program (k n) (number n) (carried n) (k (suc n)) = h n (omega arith) in
        let again : run_number program (k n) ≢ 0 = λ e. d (sym (ap (run_number program) same) ∙ e) in
        let none : carried n ≡ false = c.carries ∙ accepted_no _ _ _ again in (
          c.leaves ∙ accepted_no _ _ _ again ∙ same,
          ap₂ (λ a b. a + bit b) counted none,
        )

  -- a run is these steps in turn
  pub run_is_steps : (n : ℕ)
      → ((i : ℕ) → i < n → StepsOnce program (k i) (number i) (carried i) (k (suc i)))
      → Runs program n (k 0) (outcome (run_number program (k 0)) (how_many carried n) (k n))
  run_is_steps n h = go (ℕ_discrete first 0)
    where
      go : Dec (first ≡ 0) → Runs program n (k 0) (outcome (run_number program (k 0)) (how_many carried n) (k n))
      go (yes e) = record {
        answers = refl;
        counts = (taken e n h).1 ∙ sym (accepted_yes _ _ _ e);
        leaves = (taken e n h).0 ∙ sym (accepted_yes _ _ _ e);
      }
      go (no d) = record {
        answers = refl;
        counts = (left d n h).1 ∙ sym (accepted_no _ _ _ d);
        leaves = (left d n h).0 ∙ sym (accepted_no _ _ _ d);
      }
