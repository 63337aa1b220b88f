-- docs/RULES.md, 2.2 and 2.3 (01, "Numbers a call answers"): the number of each refusal, and an answer in numbers. "When an answer is an
-- enum, a definition states this paper's number and values for each of its cases."
use Rattle.std.specs.Prelude.{ℕ, Result, Ok, Err}
use Rattle.rules.specs.declared.Counts.{Counts}
use Rattle.rules.specs.declared.Drawn.{Drawn}
use Rattle.rules.specs.declared.Refusal.{Refusal}
use Rattle.rules.specs.declared.Refusal.TheVariants.{ProgramTooLong, WrongDataMemory, RamTooLong, IllFormedState, UnsoundScreen}
use Rattle.rules.specs.declared.Refusal.TheVariants.{VertexOutOfRange, EdgeTooLarge, NoSuchRow, NoPlane, PanelOutOfRange}

abbrev pub refusal_number : Refusal → ℕ
refusal_number ProgramTooLong = 1
refusal_number WrongDataMemory = 2
refusal_number RamTooLong = 3
refusal_number IllFormedState = 4
refusal_number UnsoundScreen = 5
refusal_number VertexOutOfRange = 6
refusal_number EdgeTooLarge = 7
refusal_number NoSuchRow = 8
refusal_number NoPlane = 9
refusal_number PanelOutOfRange = 10

-- 0 where nothing was refused
abbrev pub number_of : {A : Type 0} → Result A Refusal → ℕ
number_of (Ok _) = 0
number_of (Err refusal) = refusal_number refusal

-- drawing's answer: "Every number but 0 comes with counts of 0"
abbrev pub drawn_of : Result Counts Refusal → Drawn
drawn_of (Ok counts) = record { number = 0; covered = counts.covered; written = counts.written }
drawn_of (Err refusal) = record { number = refusal_number refusal; covered = 0; written = 0 }
