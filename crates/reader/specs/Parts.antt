-- The two areas, and what is answered of a row's bytes as C has it.
use Rattle.std.specs.Prelude.{ℕ, ◌-◌, Result, Ok, Err}
use Rattle.std.specs.declared.ops.Range.{Range}
use Rattle.rules.specs.declared.Screen.{Screen}
use Rattle.rules.specs.declared.Refusal.{Refusal}
use Rattle.rules.specs.Sizes.{colour_at, depth_at}
use Rattle.rules.specs.Answers.{refusal_number}
use Rattle.reader.specs.declared.Area.{Area}
use Rattle.reader.specs.declared.Area.TheVariants.{Colours, Depths}
use Rattle.reader.specs.declared.RowPart.{RowPart}

-- where pixel (x, y) stands in an area
abbrev pub place_in : Area → Screen → ℕ → ℕ → ℕ
place_in Colours = colour_at
place_in Depths = depth_at

-- the bytes where nothing was refused; "its part is empty" where something was
abbrev pub part_of : Result (Range ℕ) Refusal → RowPart
part_of (Ok bytes) = record { number = 0; start = bytes.start; length = bytes.end - bytes.start }
part_of (Err refusal) = record { number = refusal_number refusal; start = 0; length = 0 }
