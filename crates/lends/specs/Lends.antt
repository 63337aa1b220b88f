-- The machine's calls over a state as C has it: the state it stands for runs, and the state after is answered as C has it. "Every number
-- but 0 comes with [..] the state as given", bit by bit.
use Rattle.std.specs.Prelude.{ℕ, ◌≡◌, Bool, List, eqb}
use Rattle.rules.specs.Folds.{choose}
use Rattle.instructions.specs.declared.State.{State}
use Rattle.instructions.specs.Step.{Machine, together}
use Rattle.instructions.specs.Run.{fresh_state}
use Rattle.instructions.specs.Calls.{outcome, Runs, StepsOnce}
use Rattle.border.specs.declared.LentState.{LentState}
use Rattle.border.specs.Lent.{number_of, state_of, lent_state}
use Rattle.lends.specs.declared.LentRan.{LentRan}
use Rattle.lends.specs.declared.LentStepped.{LentStepped}

pub record Lends (r : LentState) : Type 0 where
  pub fresh : r ≡ lent_state fresh_state

-- a machine as C has it
pub record Lent : Type 0 where
  pub state : LentState
  pub memory : List ℕ
  pub ram : List ℕ

abbrev pub lent : LentState → List ℕ → List ℕ → Lent
lent state memory ram = record { state = state; memory = memory; ram = ram }

-- the machine that it stands for
abbrev pub machine_of : Lent → Machine
machine_of l = together (state_of l.state) l.memory l.ram

-- what a call answers, its number and its count of steps, and what C has after it
pub record LentOutcome : Type 0 where
  pub number : ℕ
  pub count : ℕ
  pub left : Lent

abbrev pub run_outcome : LentRan → List ℕ → List ℕ → LentOutcome
run_outcome r memory ram = record { number = r.number; count = r.steps; left = lent r.state memory ram }

-- of a single step, 1 where it was carried out and else 0
abbrev pub step_outcome : LentStepped → List ℕ → List ℕ → LentOutcome
step_outcome r memory ram = record { number = r.number; count = r.carried; left = lent r.state memory ram }

abbrev pub answered : ℕ → LentState → State → LentState
answered number given after = choose (eqb number 0) (lent_state after) given

-- a run of at most `budget` steps
pub record RunsLent (program : List ℕ) (budget : ℕ) (l : Lent) (o : LentOutcome) : Type 0 where
  pub after : State
  pub runs : Runs program budget (machine_of l) (outcome o.number o.count (together after o.left.memory o.left.ram))
  pub answers : o.left.state ≡ answered o.number l.state after

-- one step
pub record StepsLent (program : List ℕ) (l : Lent) (o : LentOutcome) : Type 0 where
  pub after : State
  pub carried_out : Bool
  pub steps : StepsOnce program (machine_of l) o.number carried_out (together after o.left.memory o.left.ram)
  pub counts : o.count ≡ number_of carried_out
  pub answers : o.left.state ≡ answered o.number l.state after
