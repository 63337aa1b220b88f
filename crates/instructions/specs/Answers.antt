-- docs/RULES.md, 11 (01, "Halts"): the number of each halt.
use Rattle.std.specs.Prelude.{ℕ, Result, Ok, Err}
use Rattle.instructions.specs.declared.Halt.{Halt}
use Rattle.instructions.specs.declared.Halt.TheVariants.{NoInstruction, PastProgram, OutsideData, NoTree, MoveOutsideData}
use Rattle.instructions.specs.declared.Halt.TheVariants.{MoveOutsideRam, NoScreen}

abbrev pub number_of_halt : Halt → ℕ
number_of_halt NoInstruction = 11
number_of_halt PastProgram = 12
number_of_halt OutsideData = 13
number_of_halt NoTree = 14
number_of_halt MoveOutsideData = 15
number_of_halt MoveOutsideRam = 16
number_of_halt NoScreen = 17

-- 0 where a step goes on
abbrev pub halt_of : {A : Type 0} → Result A Halt → ℕ
halt_of (Ok _) = 0
halt_of (Err halt) = number_of_halt halt
