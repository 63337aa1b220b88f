-- No second outcome meets what the machine's calls over a lent state promise: the state after is a value of the inputs, and so is
-- what C has of it.
use Prim.Native.Nat.{ℕ}
use mathlib.Core.Path.{◌≡◌, sym, ◌∙◌, ap}
use mathlib.Core.List.{List}
use Rattle.instructions.proofs.Unique.{runs_unique}
use Rattle.border.specs.declared.LentState.{LentState}
use Rattle.lends.specs.Lends.{Lends, Lent, LentOutcome, answered, RunsLent, StepsLent}
use Rattle.lends.proofs.Stepping.{step_is_run}

pub lends_unique : {p q : LentState} → Lends p → Lends q → p ≡ q
lends_unique a b = a.fresh ∙ sym b.fresh

pub runs_lent_unique : {program : List ℕ} {budget : ℕ} {l : Lent} {p q : LentOutcome}
    → RunsLent program budget l p
    → RunsLent program budget l q
    → p ≡ q
runs_lent_unique {l = l} a b =
    let same = runs_unique a.runs b.runs in
    λ i. record {
      number = (same i).number;
      count = (same i).count;
      left = record {
        state = (a.answers ∙ ap (λ o. answered o.number l.state o.after.state) same ∙ sym b.answers) i;
        memory = (same i).after.memory;
        ram = (same i).after.ram;
      };
    }

pub steps_lent_unique : {program : List ℕ} {l : Lent} {p q : LentOutcome} → StepsLent program l p → StepsLent program l q → p ≡ q
steps_lent_unique a b = runs_lent_unique (step_is_run a) (step_is_run b)
