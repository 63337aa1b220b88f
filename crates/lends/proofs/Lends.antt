-- A run of one state is a run of any state equal to it.
use Prim.Native.Nat.{ℕ}
use mathlib.Core.Path.{◌≡◌, subst}
use mathlib.Core.List.{List}
use Rattle.instructions.specs.declared.State.{State}
use Rattle.instructions.specs.Step.{together}
use Rattle.instructions.specs.Calls.{Outcome, Runs}

pub runs-of-equal :
    {program memory ram : List ℕ}
    {budget : ℕ}
    {s t : State}
    {o : Outcome}
    → s ≡ t
    → Runs program budget (together s memory ram) o
    → Runs program budget (together t memory ram) o
runs-of-equal {program} {memory} {ram} {budget} {s} {t} {o} e h = subst (λ u. Runs program budget (together u memory ram) o) e h
