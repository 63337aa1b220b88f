-- A row that is not refused lies within the RAM, in either area, and it has a pixel.
use Prim.Native.Nat.{ℕ, ◌+◌, ◌*◌, ◌≤◌}
use mathlib.Core.Path.{◌≡◌, sym}
use native.Mathlib.Omega.{arith}
use Rattle.rules.specs.declared.Screen.{Screen}
use Rattle.rules.specs.Sizes.{width, colour_at, depth_at}
use Rattle.rules.specs.Numbers.{row_number}
use Rattle.rules.proofs.Refusals.{screen_passed}
use Rattle.rules.proofs.Rows.{accepted-row}
use Rattle.rules.proofs.Strips.{sound_facts, colours_by_row, depths_by_row}
use Rattle.reader.specs.declared.Area.{Area}
use Rattle.reader.specs.declared.Area.TheVariants.{Colours, Depths}
use Rattle.reader.specs.Parts.{place_in}

pub row_within : (a : Area) (n : ℕ) (s : Screen) (row : ℕ) → 0 ≡ row_number n s row → place_in a s 0 row + 2 * width s.size ≤ n
row_within Colours n s row e = (accepted-row colours_by_row n s row (sym e)).fits
row_within Depths n s row e = (accepted-row depths_by_row n s row (sym e)).fits

-- told of each area by its own word
pub colours_within : (n : ℕ) (s : Screen) (row : ℕ) → 0 ≡ row_number n s row → colour_at s 0 row + 2 * width s.size ≤ n
colours_within = row_within Colours

pub depths_within : (n : ℕ) (s : Screen) (row : ℕ) → 0 ≡ row_number n s row → depth_at s 0 row + 2 * width s.size ≤ n
depths_within = row_within Depths

pub row_wide : (n : ℕ) (s : Screen) (row : ℕ) → 0 ≡ row_number n s row → 1 ≤ width s.size
unfolding row_number
row_wide n s row e = omega (arith, (sound_facts (screen_passed n s _ (sym e)).0.is_sound).groups_low)
