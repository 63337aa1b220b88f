-- What a run may count on, and what it leaves.
use Rattle.std.specs.Prelude.{ℕ, ◌≤◌, ◌≡◌, false, List, length}
use Rattle.rules.specs.Sizes.{ram_limit}
use Rattle.instructions.specs.Opcodes.{current}
use Rattle.instructions.specs.Step.{Machine}
use Rattle.instructions.specs.Run.{run, steps, ill_formed}

-- a call that no number refuses
pub record Ready (program : List ℕ) (m : Machine) : Type 0 where
  pub short : length program ≤ 1024
  pub size : length m.memory ≡ 1024
  pub limit : length m.ram ≤ ram_limit
  pub well_formed : ill_formed (length m.ram) m.state ≡ false

pub record Ends (program : List ℕ) (budget : ℕ) (m : Machine) (count : ℕ) (after : Machine) : Type 0 where
  pub counts : count ≡ steps current program budget m
  pub leaves : after ≡ run current program budget m
