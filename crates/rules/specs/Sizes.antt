-- docs/RULES.md, 1.2 and 3.1 to 3.3 (01, "Sizes"): the RAM's length, the screen and its size number, and where a pixel's colour and
-- depth stand.
use Rattle.std.specs.Prelude.{ℕ, ◌+◌, ◌*◌, ◌/◌, ◌%◌, Bool, ◌&&◌, ◌||◌, List, leb, eqb}
use Rattle.ram.specs.Ram.{store_half}
use Rattle.rules.specs.declared.Screen.{Screen}

-- "External RAM: 0 to 4,194,304 bytes"
abbrev pub ram_limit : ℕ
ram_limit = 4194304

-- "S div 512 is the width in groups of 16 pixels, 1 to 40; S mod 512 is the height, 1 to 480"
abbrev pub groups : ℕ → ℕ
groups S = S / 512

abbrev pub width : ℕ → ℕ
width S = groups S * 16

abbrev pub height : ℕ → ℕ
height S = S % 512

abbrev pub size_in_range : ℕ → Bool
size_in_range S = leb 1 (groups S) && leb (groups S) 40 && leb 1 (height S) && leb (height S) 480

abbrev pub even : ℕ → Bool
even n = eqb (n % 2) 0

-- "each area (width × height × 2 bytes, row by row)"
abbrev pub area : ℕ → ℕ
area S = width S * height S * 2

-- "both starts are even, each area lies within RAM, and the areas do not overlap. Touching is allowed."
unfoldable pub sound_areas : ℕ → Screen → Bool
sound_areas ram_length s =
    (even s.colour && even s.depth)
    && (leb (s.colour + area s.size) ram_length && leb (s.depth + area s.size) ram_length)
    && (leb (s.colour + area s.size) s.depth || leb (s.depth + area s.size) s.colour)

-- "A screen is sound when S is in that range" and its areas are
unfoldable pub sound : ℕ → Screen → Bool
sound ram_length s = size_in_range s.size && sound_areas ram_length s

-- where the colour and the depth of pixel (x, y) stand, "row by row"
unfoldable pub colour_at : Screen → ℕ → ℕ → ℕ
colour_at s x y = s.colour + (y * width s.size + x) * 2

unfoldable pub depth_at : Screen → ℕ → ℕ → ℕ
depth_at s x y = s.depth + (y * width s.size + x) * 2

-- one of the two areas, by where pixel (x, y) stands in it: `colour_at` or `depth_at`
abbrev pub Area : Type 0
Area = Screen → ℕ → ℕ → ℕ

-- what a pixel holds
pub record Pixel : Type 0 where
  pub colour : ℕ
  pub depth : ℕ

abbrev pub pixel : ℕ → ℕ → Pixel
pixel colour depth = record { colour = colour; depth = depth }

-- a pixel's colour and depth, written
unfoldable pub put_pixel : Screen → ℕ → ℕ → ℕ → ℕ → List ℕ → List ℕ
put_pixel s x y colour depth m = store_half (store_half m (colour_at s x y) colour) (depth_at s x y) depth
