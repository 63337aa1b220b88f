-- "Running m and then n steps ends as running m + n, where the sum fits, with the counts added", over a state lent and lent again: what C
-- has of a state stands for that state. A refused call answers the state as given, so the next is the same call. And a run is single
-- steps in turn.
use Prim.Native.Nat.{ℕ, zero, suc, ◌+◌, ◌<◌}
use mathlib.Core.Path.{◌≡◌, refl, sym, ◌∙◌, ap, subst}
use mathlib.Core.Logic.{◌≢◌}
use mathlib.Core.List.{List}
use native.Mathlib.Omega.{arith}
use native.Mathlib.Decide.{ℕ_discrete}
use Rattle.rules.proofs.Choices.{accepted_no, accepted_yes}
use Rattle.instructions.specs.Opcodes.{current}
use Rattle.instructions.specs.Step.{Machine, together}
use Rattle.instructions.specs.Run.{run, steps, run_number}
use Rattle.instructions.specs.Calls.{outcome, Runs}
use Rattle.instructions.proofs.Lengths.{SixteenMarks, run_keeps_marks}
use Rattle.instructions.proofs.Unique.{runs-add}
use Rattle.border.specs.declared.LentState.{LentState}
use Rattle.border.specs.Lent.{state_of, lent_state}
use Rattle.border.proofs.Back.{lent-marks, state_back}
use Rattle.lends.specs.Lends.{Lent, machine_of, LentOutcome, RunsLent, StepsLent}
use Rattle.lends.specs.Again.{in_turn, all_in_turn}
use Rattle.lends.proofs.Lends.{runs-of-equal}
use Rattle.lends.proofs.Stepping.{step_is_run}
use Rattle.lends.proofs.Unique.{runs_lent_unique}

-- a refused call changes nothing
pub record Unchanged (l : Lent) (o : LentOutcome) : Type 0 where
  pub no_steps : o.count ≡ 0
  pub same : o.left ≡ l

module _ {program : List ℕ} {budget : ℕ} {l : Lent} {p : LentOutcome} (c : RunsLent program budget l p) where
  abbrev start : Machine
  start = machine_of l

  pub lent_refused : p.number ≢ 0 → Unchanged l p
  lent_refused d =
      let no : run_number program start ≢ 0 = λ e. d (c.runs.answers ∙ e) in
      let left = c.runs.leaves ∙ accepted_no (run_number program start) (run current program budget start) start no in
      let state = c.answers ∙ accepted_no p.number (lent_state c.after) l.state d in
      record {
        no_steps = c.runs.counts ∙ accepted_no (run_number program start) (steps current program budget start) 0 no;
        same = λ i. record { state = state i; memory = (left i).memory; ram = (left i).ram };
      }

  -- an accepted call answers what its run left: lent again, it is that state
  lent_again : p.number ≡ 0 → state_of p.left.state ≡ c.after
  lent_again e =
      let none : run_number program start ≡ 0 = sym c.runs.answers ∙ e in
      let left = c.runs.leaves ∙ accepted_yes (run_number program start) (run current program budget start) start none in
      let marks = run_keeps_marks current program budget start (lent-marks l.state) in
      ap state_of (c.answers ∙ accepted_yes p.number (lent_state c.after) l.state e)
      ∙ state_back c.after (subst (λ (m : Machine). SixteenMarks m.state.tree) (sym left) marks)

module _ {program : List ℕ} {m n : ℕ} {l : Lent} {p q : LentOutcome}
    (first : RunsLent program m l p) (second : RunsLent program n p.left q) where
  -- after a refused call the second is refused alike, and nothing has changed
  pub second_refused : p.number ≢ 0 → (q.number ≡ p.number) × Unchanged l q
  second_refused d = (same_number, lent_refused same_call (λ e. d (sym same_number ∙ e)))
    where
      same_call : RunsLent program n l q
      same_call = subst (λ k. RunsLent program n k q) (lent_refused first d).same second

      same_number : q.number ≡ p.number
      same_number = same_call.runs.answers ∙ sym first.runs.answers

  pub runs_lent_add : (q.number ≡ p.number) × RunsLent program (m + n) l (in_turn p q)
  runs_lent_add = go (ℕ_discrete p.number 0)
    where
      go : Dec (p.number ≡ 0) → (q.number ≡ p.number) × RunsLent program (m + n) l (in_turn p q)
      go (yes e) =
          let mid : Machine = together first.after p.left.memory p.left.ram in
          let end : Machine = together second.after q.left.memory q.left.ram in
          let run₁ = subst (λ k. Runs program m (machine_of l) (outcome k p.count mid)) e first.runs in
          let (none, both) = runs-add run₁ (runs-of-equal (lent_again first e) second.runs) in
          let ended : LentState = lent_state second.after in (
            none ∙ sym e,
            record {
              after = second.after;
              runs = subst (λ k. Runs program (m + n) (machine_of l) (outcome k (p.count + q.count) end)) (sym none) both;
              answers = second.answers
                  ∙ accepted_yes q.number ended p.left.state none
                  ∙ sym (accepted_yes q.number ended l.state none);
            },
          )
      go (no d) =
          let (same, u) = second_refused d in
          let from : Machine = machine_of l in
          let number : ℕ = run_number program from in
          let no : number ≢ 0 = λ e. d (first.runs.answers ∙ e) in
          let none : p.count + q.count ≡ 0 = omega (arith, (lent_refused first d).no_steps, u.no_steps) in
          let left : together (state_of l.state) q.left.memory q.left.ram ≡ from =
          ap (λ k. together (state_of l.state) k.memory k.ram) u.same in (
            same,
            record {
              after = state_of l.state;
              runs = record {
                answers = same ∙ first.runs.answers;
                counts = none ∙ sym (accepted_no number (steps current program (m + n) from) 0 no);
                leaves = left ∙ sym (accepted_no number (run current program (m + n) from) from no);
              };
              answers = ap (λ k. k.state) u.same
                  ∙ sym (accepted_no q.number (lent_state (state_of l.state)) l.state (λ e. d (sym same ∙ e)));
            },
          )

  -- so a call of m + n steps, where the 64 bits of its count hold the sum, answers and leaves what the two did
  pub one_call_for_two : {r : LentOutcome} → RunsLent program (m + n) l r → r ≡ in_turn p q
  one_call_for_two c = runs_lent_unique c runs_lent_add.1

-- single steps in turn, each from what the one before left, are one run
module _ (program : List ℕ) (l : Lent) (o : ℕ → LentOutcome) (first : StepsLent program l (o 0)) where
  last-left : (n : ℕ) → (all_in_turn o n).left ≡ (o n).left
  unfolding all_in_turn
  last-left zero = refl
  last-left (suc n) = refl

  pub run_lent_is_steps : (n : ℕ)
      → ((i : ℕ) → i < n → StepsLent program (o i).left (o (suc i)))
      → RunsLent program (n + 1) l (all_in_turn o n)
  unfolding all_in_turn
  run_lent_is_steps zero h = step_is_run first
  run_lent_is_steps (suc n) h =
      let before : RunsLent program (n + 1) l (all_in_turn o n) = run_lent_is_steps n (λ i a. h i (omega arith)) in
      let next : StepsLent program (o n).left (o (suc n)) = h n (omega arith) in
      let from : StepsLent program (all_in_turn o n).left (o (suc n)) =
      subst (λ k. StepsLent program k (o (suc n))) (sym (last-left n)) next in
      subst (λ k. RunsLent program k l (all_in_turn o (suc n))) (omega arith) (runs_lent_add before (step_is_run from)).1
