-- What the row reader promises: "hands back the row's own bytes, a part of the RAM and not a copy". Each is said once over the area:
-- of `colour_at` it promises the row, of `depth_at` the depth row.
use Rattle.std.specs.Prelude.{ℕ, ◌+◌, ◌≡◌, List, length}
use Rattle.std.specs.Borrow.{Bor}
use Rattle.rules.specs.declared.Screen.{Screen}
use Rattle.rules.specs.Sizes.{Area}
use Rattle.rules.specs.Numbers.{row_number}
use Rattle.rules.specs.Calls.{part_start, row_length, part_bytes}
use Rattle.reader.specs.declared.RowPart.{RowPart}

-- "a separate check answers 0, 3, 5 or 8 for the same inputs"
pub record Checks (ram_length : ℕ) (s : Screen) (row : ℕ) (number : ℕ) : Type 0 where
  pub answers : number ≡ row_number ram_length s row

-- the number, and where the row's own bytes in an area stand in RAM of that length
pub record Locates (at : Area) (ram_length : ℕ) (s : Screen) (row : ℕ) (part : RowPart) : Type 0 where
  pub answers : part.number ≡ row_number ram_length s row
  pub starts : part.start ≡ part_start at ram_length s row
  pub spans : part.length ≡ row_length ram_length s row

-- `part` holds the row's bytes in an area, and it points into `ram` itself, at their start
pub record HandsBack (at : Area) (ram : Bor (List ℕ)) (s : Screen) (row : ℕ) (part : Bor (List ℕ)) : Type 0 where
  pub bytes : part.now ≡ part_bytes at ram.now s row
  pub block : part.ref_ptr.0 ≡ ram.ref_ptr.0
  pub offset : part.ref_ptr.1 ≡ ram.ref_ptr.1 + part_start at (length ram.now) s row
