-- docs/RULES.md, 2.3, 7.3 and 12.3: what each machine call leaves: its number, its count of steps, its state and all lent memory, for all
-- inputs. "Every number but 0 comes with counts of 0, the state as given, and all lent memory as it was."
use Rattle.std.specs.Prelude.{ℕ, ◌≡◌, Bool, false, List}
use Rattle.rules.specs.Calls.{accepted}
use Rattle.instructions.specs.declared.State.{State}
use Rattle.instructions.specs.Opcodes.{current}
use Rattle.instructions.specs.Step.{Machine, step}
use Rattle.instructions.specs.Run.{run, is_counted, steps, run_number, fresh_state}

-- what a run answers, its number and its count, and the machine that it leaves
pub record Outcome : Type 0 where
  pub number : ℕ
  pub count : ℕ
  pub after : Machine

abbrev pub outcome : ℕ → ℕ → Machine → Outcome
outcome number count after = record { number = number; count = count; after = after }

-- a run of at most `budget` steps from m
pub record Runs (program : List ℕ) (budget : ℕ) (m : Machine) (o : Outcome) : Type 0 where
  pub answers : o.number ≡ run_number program m
  pub counts : o.count ≡ accepted (run_number program m) (steps current program budget m) 0
  pub leaves : o.after ≡ accepted (run_number program m) (run current program budget m) m

-- one step from m: its number, whether it was carried out, and the machine that it leaves
pub record StepsOnce (program : List ℕ) (m : Machine) (number : ℕ) (carried_out : Bool) (after : Machine) : Type 0 where
  pub answers : number ≡ run_number program m
  pub carries : carried_out ≡ accepted (run_number program m) (is_counted current program m) false
  pub leaves : after ≡ accepted (run_number program m) (step current program m) m

-- a new state
pub record Fresh (state : State) : Type 0 where
  pub fresh : state ≡ fresh_state
