-- docs/RULES.md, 6.6 (02, M-104): "Each bar is two triangles with a common diagonal". The bar of column x that fills the rows from `top` to
-- `bottom` is the rectangle of these pixels, split from its left top to its right bottom; each triangle has one colour, and depth 0.
use Rattle.std.specs.Prelude.{ℕ, ◌+◌, ◌*◌, ◌/◌, ◌%◌, ◌≤◌, ◌<◌, ◌≡◌, Bool, ◌&&◌, leb, eqb, pos}
use Rattle.rules.specs.declared.Screen.{Screen}
use Rattle.rules.specs.declared.Plane.{Plane}
use Rattle.rules.specs.declared.Vertices.{Vertices}
use Rattle.rules.specs.declared.Triangle.{Triangle}
use Rattle.rules.specs.Sizes.{width, height}
use Rattle.rules.specs.Numbers.{screen_number}

pub record Bar : Type 0 where
  pub x : ℕ
  pub top : ℕ
  pub bottom : ℕ
  pub colour : ℕ

abbrev pub bar : ℕ → ℕ → ℕ → ℕ → Bar
bar x top bottom colour = record { x = x; top = top; bottom = bottom; colour = colour }

-- the same value at every pixel
abbrev pub flat : ℕ → Plane
flat v = record { c = pos (v * 65536); a = pos 0; b = pos 0 }

-- one colour, depth 0
unfoldable pub in_colour : ℕ → Vertices → Triangle
in_colour colour v = record {
  vertices = v;
  depth = flat 0;
  red = flat (colour / 2048);
  green = flat (colour / 32 % 64);
  blue = flat (colour % 32);
}

-- left top, right top, right bottom
unfoldable pub upper_half : ℕ → ℕ → ℕ → Vertices
upper_half x top bottom = record {
  x1 = pos (8 * x);
  y1 = pos (8 * top);
  x2 = pos (8 * x + 8);
  y2 = pos (8 * top);
  x3 = pos (8 * x + 8);
  y3 = pos (8 * bottom + 8);
}

-- right bottom, left bottom, left top
unfoldable pub lower_half : ℕ → ℕ → ℕ → Vertices
lower_half x top bottom = record {
  x1 = pos (8 * x + 8);
  y1 = pos (8 * bottom + 8);
  x2 = pos (8 * x);
  y2 = pos (8 * bottom + 8);
  x3 = pos (8 * x);
  y3 = pos (8 * top);
}

abbrev pub upper : Bar → Triangle
upper b = in_colour b.colour (upper_half b.x b.top b.bottom)

abbrev pub lower : Bar → Triangle
lower b = in_colour b.colour (lower_half b.x b.top b.bottom)

-- the pixels of the bar
abbrev pub in_bar : Bar → ℕ → ℕ → Bool
in_bar b column y = eqb column b.x && (leb b.top y && leb y b.bottom)

-- a bar on a screen that is not refused
pub record BarFits (ram_length : ℕ) (s : Screen) (b : Bar) : Type 0 where
  pub screen : screen_number ram_length s ≡ 0
  pub across : b.x < width s.size
  pub ordered : b.top ≤ b.bottom
  pub down : b.bottom < height s.size
  pub half : b.colour < 65536
