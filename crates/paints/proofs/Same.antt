-- Where a screen stands does not matter to what is painted: one painting, a clear and a drawing leave equal pixels from equal pixels, and
-- a drawing counts alike.
use Prim.Native.Nat.{ℕ, ◌<◌}
use mathlib.Core.Path.{◌≡◌, refl, sym, ◌∙◌, ap, ap₂}
use mathlib.Core.Bool.{Bool, true, ◌&&◌}
use mathlib.Core.List.{List}
use lib.ListN.{length}
use lib.Dec.{leb}
use Rattle.rules.specs.declared.Screen.{Screen}
use Rattle.rules.specs.declared.Triangle.{Triangle}
use Rattle.rules.specs.Folds.{choose}
use Rattle.rules.specs.Sizes.{width, height, sound}
use Rattle.rules.specs.Triangles.{covered, written, covered_pixels, written_pixels, triangle_colour, triangle_depth, drawn}
use Rattle.rules.specs.Calls.{cleared}
use Rattle.rules.proofs.Folds.{pixels_same}
use Rattle.order.proofs.Pointwise.{painted-colour, painted-depth, drawn_pointwise}
use Rattle.paints.specs.Paint.{Paint, PaintedWith}
use Rattle.paints.specs.Alike.{Starts, screen_at, SamePixels}
use Rattle.paints.proofs.Painted.{colour-after, depth-after, clear_paints}

-- one painting on two screens
pub painted_alike : (p : Starts) {s : Screen} {colour depth : Paint} {m k m' k' : List ℕ}
    → PaintedWith s colour depth m m'
    → PaintedWith (screen_at p s) colour depth k k'
    → SamePixels s m (screen_at p s) k
    → SamePixels s m' (screen_at p s) k'
painted_alike p {s} {colour} {depth} f g h x y a b = (
  colour-after f x y a b
      ∙ ap (choose (colour.picks x y) (colour.value x y)) (h x y a b).0
      ∙ sym (colour-after g x y a b),
  depth-after f x y a b
      ∙ ap (choose (depth.picks x y) (depth.value x y)) (h x y a b).1
      ∙ sym (depth-after g x y a b),
)

module _ (p : Starts) (s : Screen) (m k : List ℕ)
    (same : SamePixels s m (screen_at p s) k)
    (h : sound (length m) s ≡ true)
    (h' : sound (length k) (screen_at p s) ≡ true) where
  pub cleared_alike : (colour depth : ℕ) → SamePixels s (cleared s colour depth m) (screen_at p s) (cleared (screen_at p s) colour depth k)
  cleared_alike colour depth =
      painted_alike p (clear_paints s m h colour depth) (clear_paints (screen_at p s) k h' colour depth) same

  -- a triangle
  module _ (t : Triangle) where
    covered_alike : (x y : ℕ) → covered t (screen_at p s) x y ≡ covered t s x y
    unfolding covered
    covered_alike x y = refl

    written_alike : (x y : ℕ) → x < width s.size → y < height s.size → written t s m x y ≡ written t (screen_at p s) k x y
    unfolding written
    written_alike x y a b =
        ap₂ (λ (c : Bool) (d : ℕ). c && leb (triangle_depth t x y) d) (sym (covered_alike x y)) (same x y a b).1

    pub drawn_alike : SamePixels s (drawn t s m) (screen_at p s) (drawn t (screen_at p s) k)
    drawn_alike x y a b =
        let f = drawn_pointwise s m h t in
        let g = drawn_pointwise (screen_at p s) k h' t in
        let w : written t s m x y ≡ written t (screen_at p s) k x y = written_alike x y a b in (
          painted-colour f x y a b
              ∙ ap₂ (λ (u : Bool) (v : ℕ). choose u (triangle_colour t x y) v) w (same x y a b).0
              ∙ sym (painted-colour g x y a b),
          painted-depth f x y a b
              ∙ ap₂ (λ (u : Bool) (v : ℕ). choose u (triangle_depth t x y) v) w (same x y a b).1
              ∙ sym (painted-depth g x y a b),
        )

    pub counts_alike : (covered_pixels t (screen_at p s) ≡ covered_pixels t s) × (written_pixels t s m ≡ written_pixels t (screen_at p s) k)
    counts_alike = (
      pixels_same (covered t (screen_at p s)) (width s.size) (covered t s) (height s.size) (λ x y a b. covered_alike x y),
      pixels_same (written t s m) (width s.size) (written t (screen_at p s) k) (height s.size) written_alike,
    )
