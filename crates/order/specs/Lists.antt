-- A list of triangles, told pixel by pixel, and drawn by calls.
use Rattle.std.specs.Prelude.{ℕ, ◌≡◌, ◌&&◌, List, [], ◌∷◌, leb}
use Rattle.rules.specs.declared.Screen.{Screen}
use Rattle.rules.specs.declared.Triangle.{Triangle}
use Rattle.rules.specs.declared.Drawn.{Drawn}
use Rattle.rules.specs.Folds.{choose}
use Rattle.ram.specs.Ram.{load_half}
use Rattle.rules.specs.Sizes.{colour_at, depth_at, Pixel, pixel}
use Rattle.rules.specs.Triangles.{covered, triangle_depth, triangle_pixel}
use Rattle.rules.specs.Calls.{Draws}

-- the pixel as it stands in the memory
abbrev pub pixel_at : List ℕ → Screen → ℕ → ℕ → Pixel
pixel_at m s x y = pixel (load_half m (colour_at s x y)) (load_half m (depth_at s x y))

-- what a triangle makes of it: "A covered pixel is written, colour and depth, if its depth is at most the stored depth."
unfoldable pub after_triangle : Triangle → Screen → ℕ → ℕ → Pixel → Pixel
after_triangle t s x y p =
    choose (covered t s x y && leb (triangle_depth t x y) p.depth) (triangle_pixel t x y) p

-- what each of the list in turn makes of it
unfoldable pub after_list : List Triangle → Screen → ℕ → ℕ → Pixel → Pixel
after_list [] s x y p = p
after_list (t ∷ list) s x y p = after_list list s x y (after_triangle t s x y p)

-- each triangle of the list drawn by a call, in order, and accepted: from memory m to `after`
pub data DrawsAll (s : Screen) : List Triangle → List ℕ → List ℕ → Type 0 where
  none : {m : List ℕ} → DrawsAll s [] m m
  call : {m k after : List ℕ} {t : Triangle} {list : List Triangle} {r : Drawn}
      → Draws m s t r k
      → r.number ≡ 0
      → DrawsAll s list k after
      → DrawsAll s (t ∷ list) m after
