-- docs/RULES.md, 2.3 and 6: what each call leaves: its number, its counts and every byte of the lent memory. "Every number but 0 comes
-- with counts of 0 .. and all lent memory as it was."
use Rattle.std.specs.Prelude.{ℕ, ◌*◌, ◌≡◌, List, length, take, drop, eqb}
use Rattle.rules.specs.declared.Screen.{Screen}
use Rattle.rules.specs.declared.Triangle.{Triangle}
use Rattle.rules.specs.declared.Drawn.{Drawn}
use Rattle.rules.specs.Folds.{upto, choose}
use Rattle.rules.specs.Sizes.{width, height, Area, colour_at, depth_at, Pixel, put_pixel}
use Rattle.rules.specs.Numbers.{screen_number, row_number, triangle_number}
use Rattle.rules.specs.Triangles.{covered_pixels, written_pixels, drawn}

-- "a clear (every pixel of a screen to one given colour and one given depth, all else kept)"
unfoldable pub cleared : Screen → ℕ → ℕ → List ℕ → List ℕ
cleared s colour depth m =
    upto (λ y. upto (λ x. put_pixel s x y colour depth) (width s.size)) (height s.size) m

-- what is kept where the number is not 0
abbrev pub accepted : {A : Type 0} → ℕ → A → A → A
accepted number done kept = choose (eqb number 0) done kept

-- a clear from memory m to what every pixel is to hold: it answers `number` and leaves the memory `after`
pub record Clears (m : List ℕ) (s : Screen) (p : Pixel) (number : ℕ) (after : List ℕ) : Type 0 where
  pub answers : number ≡ screen_number (length m) s
  pub leaves : after ≡ accepted (screen_number (length m) s) (cleared s p.colour p.depth m) m

-- drawing a triangle from memory m: it answers `answer` and leaves the memory `after`
pub record Draws (m : List ℕ) (s : Screen) (t : Triangle) (answer : Drawn) (after : List ℕ) : Type 0 where
  pub answers : answer.number ≡ triangle_number (length m) s t
  pub covers : answer.covered ≡ accepted (triangle_number (length m) s t) (covered_pixels t s) 0
  pub writes : answer.written ≡ accepted (triangle_number (length m) s t) (written_pixels t s m) 0
  pub leaves : after ≡ accepted (triangle_number (length m) s t) (drawn t s m) m

-- where a row's own bytes start in an area, and how many they are in either: 2 × width bytes, or none where refused
unfoldable pub part_start : Area → ℕ → Screen → ℕ → ℕ
part_start at ram_length s row = accepted (row_number ram_length s row) (at s 0 row) 0

unfoldable pub row_length : ℕ → Screen → ℕ → ℕ
row_length ram_length s row = accepted (row_number ram_length s row) (2 * width s.size) 0

unfoldable pub part_bytes : Area → List ℕ → Screen → ℕ → List ℕ
part_bytes at m s row = take (row_length (length m) s row) (drop (part_start at (length m) s row) m)

-- the row: "the 2 × width colour bytes of one row"
abbrev pub row_start : ℕ → Screen → ℕ → ℕ
row_start = part_start colour_at

abbrev pub row_bytes : List ℕ → Screen → ℕ → List ℕ
row_bytes = part_bytes colour_at

-- the depth row: its 2 × width depth bytes
abbrev pub depth_row_start : ℕ → Screen → ℕ → ℕ
depth_row_start = part_start depth_at

abbrev pub depth_row_bytes : List ℕ → Screen → ℕ → List ℕ
depth_row_bytes = part_bytes depth_at
