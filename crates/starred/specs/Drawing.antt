-- What the starred triangles give: pixels covered on the screen of 16 by 4.
use Rattle.std.specs.Prelude.{ℕ, ◌&&◌, ℤ, pos}
use Rattle.rules.specs.declared.Screen.{Screen}
use Rattle.rules.specs.declared.Plane.{Plane}
use Rattle.rules.specs.declared.Triangle.{Triangle}
use Rattle.rules.specs.Folds.{pixels}
use Rattle.rules.specs.Sizes.{width, height}
use Rattle.rules.specs.Triangles.{covered, covered_pixels}

-- "Screen 16 by 4"
abbrev pub screen16by4 : Screen
screen16by4 = record { colour = 0; depth = 128; size = 516 }

abbrev pub no_plane : Plane
no_plane = record { c = pos 0; a = pos 0; b = pos 0 }

-- three vertices, then depth, red, green and blue
abbrev pub triangle : ℤ → ℤ → ℤ → ℤ → ℤ → ℤ → Plane → Plane → Plane → Plane → Triangle
triangle x1 y1 x2 y2 x3 y3 depth red green blue = record {
  vertices = record { x1 = x1; y1 = y1; x2 = x2; y2 = y2; x3 = x3; y3 = y3 };
  depth = depth;
  red = red;
  green = green;
  blue = blue;
}

abbrev pub vertices : ℤ → ℤ → ℤ → ℤ → ℤ → ℤ → Triangle
vertices x1 y1 x2 y2 x3 y3 = triangle x1 y1 x2 y2 x3 y3 no_plane no_plane no_plane no_plane

abbrev pub corners : ℕ → ℕ → ℕ → ℕ → ℕ → ℕ → Triangle
corners x1 y1 x2 y2 x3 y3 = vertices (pos x1) (pos y1) (pos x2) (pos y2) (pos x3) (pos y3)

-- how many pixels of the screen the triangle covers, and how many both cover
abbrev pub covers : Triangle → ℤ
covers t = pos (covered_pixels t screen16by4)

abbrev pub both_cover : Triangle → Triangle → ℤ
both_cover t u =
    pos
    (pixels (λ x y. covered t screen16by4 x y && covered u screen16by4 x y) (width screen16by4.size) (height screen16by4.size))
