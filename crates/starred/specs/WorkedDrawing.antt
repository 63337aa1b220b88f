-- Triangles worked out by hand from 01, one of each kind, on the starred cases' screen of 16 by 4: pixel (x, y) is sampled at
-- (8x + 4, 8y + 4), as 02's M-100 has it. A row is one number, its first pixel highest, so that a hexadecimal digit has four pixels:
-- 0xF000 is the first four.
use Rattle.std.specs.Prelude.{ℕ, ◌+◌, ◌*◌, Bool, List, [], ◌∷◌, length, replicate, pos}
use Rattle.rules.specs.declared.Plane.{Plane}
use Rattle.rules.specs.declared.Triangle.{Triangle}
use Rattle.rules.specs.Folds.{upto, bit}
use Rattle.ram.specs.Ram.{load_half, store_half}
use Rattle.rules.specs.Sizes.{width, height, colour_at, depth_at}
use Rattle.rules.specs.Triangles.{covered, covered_pixels, written_pixels, drawn}
use Rattle.rules.specs.Numbers.{row_number, triangle_number}
use Rattle.rules.specs.Calls.{accepted, row_start, depth_row_start, row_length}
use Rattle.starred.specs.Drawing.{screen16by4, triangle, vertices, corners}
use Rattle.starred.specs.Machine.{minus}

-- what follows from 01 and 02, and what the definitions give
pub record Case : Type 0 where
  pub says : List ℕ
  pub gives : List ℕ

abbrev pub case : List ℕ → List ℕ → Case
case says gives = record { says = says; gives = gives }

abbrev pub sixteen : (ℕ → Bool) → ℕ
sixteen test = upto (λ k n. 2 * n + bit (test k)) 16 0

-- the pixels covered, row by row
abbrev pub covered_row : Triangle → ℕ → ℕ
covered_row t y = sixteen (λ x. covered t screen16by4 x y)

abbrev pub shape : Triangle → List ℕ
shape t = covered_row t 0 ∷ covered_row t 1 ∷ covered_row t 2 ∷ covered_row t 3 ∷ []

-- a RAM whose stored depths are 4 and 5 at the first two pixels, and 65535, as all colours, elsewhere
abbrev pub stored : List ℕ
stored = store_half (store_half (replicate 256 255) 128 4) 130 5

-- the number, and how many pixels are covered and written
abbrev pub counts : Triangle → List ℕ
counts t =
    let n = triangle_number (length stored) screen16by4 t in
    n ∷ accepted n (covered_pixels t screen16by4) 0 ∷ accepted n (written_pixels t screen16by4 stored) 0 ∷ []

-- the colours and the depths of a row's first five pixels, once it is drawn
abbrev pub five : (ℕ → ℕ) → List ℕ
five at = at 0 ∷ at 1 ∷ at 2 ∷ at 3 ∷ at 4 ∷ []

abbrev pub colours : Triangle → ℕ → List ℕ
colours t y = five (λ x. load_half (drawn t screen16by4 stored) (colour_at screen16by4 x y))

abbrev pub depths : Triangle → ℕ → List ℕ
depths t y = five (λ x. load_half (drawn t screen16by4 stored) (depth_at screen16by4 x y))

-- a plane whose top half is n at pixel (0, 0), and a, b more for each column and row
abbrev pub plane : ℕ → ℕ → ℕ → Plane
plane n a b = record { c = pos (n * 65536); a = pos (a * 65536); b = pos (b * 65536) }

abbrev pub flat : ℕ → Plane
flat n = plane n 0 0

-- the first starred triangle, which covers 3, 2, 1 and no pixels of the rows: at a depth, in blue 1
abbrev pub blue_at : ℕ → Triangle
blue_at depth = triangle (pos 0) (pos 0) (pos 32) (pos 0) (pos 0) (pos 32) (flat depth) (flat 0) (flat 0) (flat 1)

-- and at depth 0 with red 2 for each column, green 3 and 1 for each row, blue 33
abbrev pub shaded : Triangle
shaded = triangle (pos 0) (pos 0) (pos 32) (pos 0) (pos 0) (pos 32) (flat 0) (plane 0 2 0) (plane 3 0 1) (flat 33)

-- the row's number, where its colours and its depths start, and how many bytes each are
abbrev pub row_at : ℕ → List ℕ
row_at y =
    row_number 256 screen16by4 y ∷ row_start 256 screen16by4 y ∷ depth_row_start 256 screen16by4 y ∷ row_length 256 screen16by4 y ∷ []

unfoldable pub worked_drawings : List Case
worked_drawings =
    -- to the right, down to the left and up: 7 pixels, and two fewer in each row below; turned the other way: none
    case (0xFE00 ∷ 0xF800 ∷ 0xE000 ∷ 0x8000 ∷ []) (shape (corners 0 0 64 0 0 32))
    ∷ case (0 ∷ 0 ∷ 0 ∷ 0 ∷ []) (shape (corners 0 0 0 32 64 0))
    -- no area: three vertices on one line, which goes through the sample points of (0, 0), (2, 1), (4, 2), (6, 3)
    ∷ case (0 ∷ 0 ∷ 0 ∷ 0 ∷ []) (shape (corners 4 4 68 36 36 20))
    -- a level edge on top, through row 1's sample points: its pixels are in; at the bottom, through row 3's: they are out
    ∷ case (0 ∷ 0xFF00 ∷ 0xF000 ∷ 0 ∷ []) (shape (corners 4 12 68 12 4 28))
    ∷ case (0 ∷ 0 ∷ 0xF000 ∷ 0 ∷ []) (shape (corners 4 12 68 28 4 28))
    -- the square of columns 1 and 2 and rows 1 and 2, cut along its diagonal: above it (1, 1) alone; the sample points of (2, 1) and (1, 2)
    -- are on the diagonal, and go with (2, 2) to the triangle that runs up it
    ∷ case (0 ∷ 0x4000 ∷ 0 ∷ 0 ∷ []) (shape (corners 8 8 24 8 8 24))
    ∷ case (0 ∷ 0x2000 ∷ 0x6000 ∷ 0 ∷ []) (shape (corners 24 24 8 24 24 8))
    -- a vertex on the sample point of (1, 1), the only one near: in where a level top edge meets a rising one; else out
    ∷ case (0 ∷ 0x4000 ∷ 0 ∷ 0 ∷ []) (shape (corners 12 12 19 12 13 19))
    ∷ case (0 ∷ 0 ∷ 0 ∷ 0 ∷ []) (shape (corners 12 12 19 13 12 19))
    -- an edge through the sample points of (0, 0), (1, 1), (2, 2), (3, 3): in where it runs up, out where it runs down
    ∷ case (0xF000 ∷ 0x7000 ∷ 0x3000 ∷ 0x1000 ∷ []) (shape (corners 0 0 32 0 32 32))
    ∷ case (0 ∷ 0x8000 ∷ 0xC000 ∷ 0xE000 ∷ []) (shape (corners 0 0 32 32 0 32))
    -- partly off the screen: to the left and above; to the right and below
    ∷ case (0x8000 ∷ 0 ∷ 0 ∷ 0 ∷ []) (shape (vertices (minus 16) (minus 16) (pos 32) (minus 16) (minus 16) (pos 32)))
    ∷ case (0 ∷ 0 ∷ 0x0003 ∷ 0x0003 ∷ []) (shape (corners 112 16 144 16 112 48))
    -- at depth 5 the first pixel is hidden by its 4; the second, whose depth is equal, is written, and so are the other four
    ∷ case (0 ∷ 6 ∷ 5 ∷ []) (counts (blue_at 5))
    ∷ case (65535 ∷ 1 ∷ 1 ∷ 65535 ∷ 65535 ∷ []) (colours (blue_at 5) 0)
    ∷ case (4 ∷ 5 ∷ 5 ∷ 65535 ∷ 65535 ∷ []) (depths (blue_at 5) 0)
    -- depths are unsigned: 65535 is hidden by 4 and by 5
    ∷ case (0 ∷ 6 ∷ 4 ∷ []) (counts (blue_at 65535))
    -- in row 1: red 0 and 2; green 4; blue 1, the low five bits of 33. Planes count from pixel (0, 0), whatever the sample point
    ∷ case (129 ∷ 4225 ∷ 65535 ∷ 65535 ∷ 65535 ∷ []) (colours shaded 1)
    -- "Vertex 8191 passes, 8192 gives 6. S = 20960 is 640 by 480."
    ∷ case (0 ∷ 64 ∷ 64 ∷ []) (counts (corners 0 0 8191 0 0 8191))
    ∷ case (6 ∷ 0 ∷ 0 ∷ []) (counts (corners 0 0 8191 0 0 8192))
    ∷ case (640 ∷ 480 ∷ []) (width 20960 ∷ height 20960 ∷ [])
    -- row 3 is the 32 bytes from 96 on, and its depths those from 224 on; there is no row 4
    ∷ case (0 ∷ 96 ∷ 224 ∷ 32 ∷ []) (row_at 3)
    ∷ case (8 ∷ 0 ∷ 0 ∷ 0 ∷ []) (row_at 4)
    ∷ []
