-- docs/RULES.md, 3.4, 4, 5 and 6.2 (01, "Triangles", with the sample point of 02's M-100): planes, the sample point, the edge value, the
-- tie rule, which pixels are covered and which are written.
use Rattle.std.specs.Prelude.{ℕ, zero, suc, ◌+◌, ◌*◌, ◌/◌, ◌%◌, Bool, true, false, ◌&&◌, ◌||◌, List, leb, ltb, ℤ, pos, negsuc, ◌+ℤ◌, ◌-ℤ◌, ◌*ℤ◌}
use Rattle.ints.specs.Modulo.{mod32}
use Rattle.rules.specs.declared.Screen.{Screen}
use Rattle.rules.specs.declared.Plane.{Plane}
use Rattle.rules.specs.declared.Vertices.{Vertices}
use Rattle.rules.specs.declared.Triangle.{Triangle}
use Rattle.rules.specs.Folds.{upto, pixels, choose}
use Rattle.ram.specs.Ram.{load_half}
use Rattle.rules.specs.Sizes.{width, height, depth_at, Pixel, pixel, put_pixel}

-- "At pixel (x, y) a plane has c + a·x + b·y, taken modulo 2^32."
unfoldable pub plane_at : Plane → ℕ → ℕ → ℕ
plane_at p x y = mod32 (p.c +ℤ p.a *ℤ pos x +ℤ p.b *ℤ pos y)

-- "Depth is its top 16 bits; red and blue are bits 16 to 20, green bits 16 to 21."
unfoldable pub top_half : ℕ → ℕ
top_half v = v / 65536

-- "Colour is red × 2048 + green × 32 + blue (5, 6, 5 bits)."
unfoldable pub packed : ℕ → ℕ → ℕ → ℕ
packed red green blue = top_half red % 32 * 2048 + top_half green % 64 * 32 + top_half blue % 32

unfoldable pub triangle_depth : Triangle → ℕ → ℕ → ℕ
triangle_depth t x y = top_half (plane_at t.depth x y)

unfoldable pub triangle_colour : Triangle → ℕ → ℕ → ℕ
triangle_colour t x y = packed (plane_at t.red x y) (plane_at t.green x y) (plane_at t.blue x y)

abbrev pub triangle_pixel : Triangle → ℕ → ℕ → Pixel
triangle_pixel t x y = pixel (triangle_colour t x y) (triangle_depth t x y)

pub record Point : Type 0 where
  pub px : ℤ
  pub py : ℤ

-- the point of pixel (x, y) that lies so many eighths to the right of its upper left corner, and so many below it
abbrev pub point_in : ℕ → ℕ → ℕ → ℕ → Point
point_in right down x y = record { px = pos (8 * x + right); py = pos (8 * y + down) }

-- "pixel (x, y) is sampled at (8x + 4, 8y + 4)" (02, M-100)
abbrev pub sample_offset : ℕ
sample_offset = 4

unfoldable pub sample : ℕ → ℕ → Point
sample x y = point_in sample_offset sample_offset x y

-- "the directed edge from (x1, y1) to (x2, y2)"
pub record Edge : Type 0 where
  pub x1 : ℤ
  pub y1 : ℤ
  pub x2 : ℤ
  pub y2 : ℤ

-- "with dx = x2 - x1, dy = y2 - y1"
abbrev pub dx : Edge → ℤ
dx e = e.x2 -ℤ e.x1

abbrev pub dy : Edge → ℤ
dy e = e.y2 -ℤ e.y1

-- "its edge value is (py - y1)·dx - (px - x1)·dy"
unfoldable pub edge_value : Edge → Point → ℤ
edge_value e p = (p.py -ℤ e.y1) *ℤ dx e -ℤ (p.px -ℤ e.x1) *ℤ dy e

abbrev pub positive : ℤ → Bool
positive (pos zero) = false
positive (pos (suc n)) = true
positive (negsuc n) = false

abbrev pub is_zero : ℤ → Bool
is_zero (pos zero) = true
is_zero (pos (suc n)) = false
is_zero (negsuc n) = false

abbrev pub negative : ℤ → Bool
negative (pos n) = false
negative (negsuc n) = true

-- the edges whose zeros are inside: "dy < 0, or .. dy = 0 and dx > 0 (tie rule, house)"
unfoldable pub keeps_zero : ℤ → ℤ → Bool
keeps_zero dx dy = negative dy || is_zero dy && positive dx

-- "The pixel is inside if the value is positive, or if it is zero and" the tie rule keeps it
unfoldable pub inside : Edge → Point → Bool
inside e p = positive (edge_value e p) || is_zero (edge_value e p) && keeps_zero (dx e) (dy e)

-- the three edges, "taken in the vertices' order"
abbrev pub edge1 : Vertices → Edge
edge1 v = record { x1 = v.x1; y1 = v.y1; x2 = v.x2; y2 = v.y2 }

abbrev pub edge2 : Vertices → Edge
edge2 v = record { x1 = v.x2; y1 = v.y2; x2 = v.x3; y2 = v.y3 }

abbrev pub edge3 : Vertices → Edge
edge3 v = record { x1 = v.x3; y1 = v.y3; x2 = v.x1; y2 = v.y1 }

unfoldable pub inside_all : Vertices → Point → Bool
inside_all v p = inside (edge1 v) p && inside (edge2 v) p && inside (edge3 v) p

-- twice the area: positive for the winding that draws. "A triangle turned the other way, or of no area, .. covers none."
unfoldable pub doubled_area : Vertices → ℤ
doubled_area v = (v.x2 -ℤ v.x1) *ℤ (v.y3 -ℤ v.y1) -ℤ (v.x3 -ℤ v.x1) *ℤ (v.y2 -ℤ v.y1)

abbrev pub on_screen : Screen → ℕ → ℕ → Bool
on_screen s x y = ltb x (width s.size) && ltb y (height s.size)

-- "It is covered if it is on the screen and inside all three edges": first where pixel (x, y) is judged at the point `at x y`, then at its
-- sample point
abbrev pub covered_by : (ℕ → ℕ → Point) → Triangle → Screen → ℕ → ℕ → Bool
covered_by at t s x y = on_screen s x y && inside_all t.vertices (at x y)

unfoldable pub covered : Triangle → Screen → ℕ → ℕ → Bool
covered t s x y = covered_by sample t s x y

-- "its depth is at most the stored depth"
abbrev pub at_most_stored : Triangle → Screen → List ℕ → ℕ → ℕ → Bool
at_most_stored t s m x y = leb (triangle_depth t x y) (load_half m (depth_at s x y))

-- "A covered pixel is written, colour and depth, if its depth is at most the stored depth."
unfoldable pub written : Triangle → Screen → List ℕ → ℕ → ℕ → Bool
written t s m x y = covered t s x y && at_most_stored t s m x y

-- "how many pixels were covered and how many written"
abbrev pub covered_pixels : Triangle → Screen → ℕ
covered_pixels t s = pixels (covered t s) (width s.size) (height s.size)

abbrev pub written_pixels : Triangle → Screen → List ℕ → ℕ
written_pixels t s m = pixels (written t s m) (width s.size) (height s.size)

-- the memory after the triangle is drawn: pixel by pixel, row by row
unfoldable pub pixel_drawn : Triangle → Screen → ℕ → ℕ → List ℕ → List ℕ
pixel_drawn t s y x m = choose (written t s m x y) (put_pixel s x y (triangle_colour t x y) (triangle_depth t x y) m) m

unfoldable pub row_drawn : Triangle → Screen → ℕ → List ℕ → List ℕ
row_drawn t s y m = upto (pixel_drawn t s y) (width s.size) m

unfoldable pub drawn : Triangle → Screen → List ℕ → List ℕ
drawn t s m = upto (row_drawn t s) (height s.size) m
