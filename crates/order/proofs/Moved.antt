-- The point and all vertices moved by the same amount change nothing: an edge's value and both its steps are differences, and these stay.
-- So a triangle moved half a pixel to the right and down covers, sampled at (8x + 4, 8y + 4), what it covered sampled at (8x, 8y); and one
-- moved by whole pixels covers the pixels so much further.
use Prim.Native.Nat.{ℕ, ◌+◌, ◌*◌}
use mathlib.Core.Path.{◌≡◌, refl, sym, ◌∙◌, ap, ap₂, subst}
use mathlib.Core.Bool.{Bool, true, ◌&&◌}
use mathlib.Core.List.{List, [], ◌∷◌}
use native.Mathlib.Omega.{arith}
use lib.Dec.{ltb}
use lib.ListN.{length}
use lib.IntN.{ℤ, pos, ◌+ℤ◌, ◌-ℤ◌}
use borrow.Author.Tests.{ltb-true, lt-ltb}
use Rattle.ints.specs.Modulo.{mod32}
use Rattle.ints.proofs.Poly.{var, con, ◌⊕◌, ◌⊖◌, ◌⊗◌, solve}
use Rattle.rules.specs.declared.Screen.{Screen}
use Rattle.rules.specs.declared.Plane.{Plane}
use Rattle.rules.specs.declared.Vertices.{Vertices}
use Rattle.rules.specs.declared.Triangle.{Triangle}
use Rattle.rules.specs.Folds.{pixels}
use Rattle.rules.specs.Sizes.{width, height, sound}
use Rattle.rules.specs.Triangles.{plane_at, triangle_depth, triangle_colour, triangle_pixel, Point, point_in, sample_offset, sample}
use Rattle.rules.specs.Triangles.{Edge, edge_value, inside, edge1, edge2, edge3, inside_all, on_screen, covered_by, covered}
use Rattle.rules.specs.Triangles.{at_most_stored, written, covered_pixels, written_pixels, drawn}
use Rattle.rules.proofs.Choices.{and_true}
use Rattle.rules.proofs.Folds.{pixels_same}
use Rattle.order.specs.Pointwise.{Painted}
use Rattle.order.specs.Moved.{moved_point, moved_edge, moved_vertices, moved, moved_half, written_by}
use Rattle.order.proofs.Sides.{within, inside_is}
use Rattle.order.proofs.Pointwise.{drawn_pointwise}

-- the point and the vertices moved alike

module _ (right down : ℤ) where
  moved_value : (e : Edge) (p : Point) → edge_value (moved_edge right down e) (moved_point right down p) ≡ edge_value e p
  unfolding edge_value
  moved_value e p =
      solve (e.x1 ∷ e.y1 ∷ e.x2 ∷ e.y2 ∷ p.px ∷ p.py ∷ right ∷ down ∷ [])
      ((var 5 ⊕ var 7 ⊖ (var 1 ⊕ var 7)) ⊗ (var 2 ⊕ var 6 ⊖ (var 0 ⊕ var 6))
      ⊖ (var 4 ⊕ var 6 ⊖ (var 0 ⊕ var 6)) ⊗ (var 3 ⊕ var 7 ⊖ (var 1 ⊕ var 7)))
      ((var 5 ⊖ var 1) ⊗ (var 2 ⊖ var 0) ⊖ (var 4 ⊖ var 0) ⊗ (var 3 ⊖ var 1))
      tt

  pub moved_inside : (e : Edge) (p : Point) → inside (moved_edge right down e) (moved_point right down p) ≡ inside e p
  moved_inside e p =
      inside_is (moved_edge right down e) (moved_point right down p)
      ∙ alike (moved_value e p) (step e.x2 e.x1 right) (step e.y2 e.y1 down)
      ∙ sym (inside_is e p)
    where
      step : (a b r : ℤ) → (a +ℤ r) -ℤ (b +ℤ r) ≡ a -ℤ b
      step a b r = solve (a ∷ b ∷ r ∷ []) (var 0 ⊕ var 2 ⊖ (var 1 ⊕ var 2)) (var 0 ⊖ var 1) tt

      alike : {v v' u u' w w' : ℤ} → v ≡ v' → u ≡ u' → w ≡ w' → within v u w ≡ within v' u' w'
      alike p q r = rw (p, q, r)

  pub moved_inside_all : (v : Vertices) (p : Point) → inside_all (moved_vertices right down v) (moved_point right down p) ≡ inside_all v p
  unfolding inside_all
  moved_inside_all v p = ap₂ ◌&&◌ (ap₂ ◌&&◌ (moved_inside (edge1 v) p) (moved_inside (edge2 v) p)) (moved_inside (edge3 v) p)

  pub moved-covered : (at : ℕ → ℕ → Point) (t : Triangle) (s : Screen) (x y : ℕ)
      → covered_by (λ i j. moved_point right down (at i j)) (moved right down t) s x y ≡ covered_by at t s x y
  moved-covered at t s x y = ap (λ (b : Bool). on_screen s x y && b) (moved_inside_all t.vertices (at x y))

-- from one point of a pixel to another, and the half pixel

module _ (t : Triangle) (s : Screen) (x y : ℕ) where
  pub offset-moved : (a b c d : ℕ)
      → covered_by (point_in (a + c) (b + d)) (moved (pos c) (pos d) t) s x y ≡ covered_by (point_in a b) t s x y
  offset-moved a b c d =
      ap (λ (p : Point). on_screen s x y && inside_all (moved_vertices (pos c) (pos d) t.vertices) p)
      (λ i. record { px = pos (sum x a c i); py = pos (sum y b d i) })
      ∙ moved-covered (pos c) (pos d) (point_in a b) t s x y
    where
      sum : (n o k : ℕ) → 8 * n + (o + k) ≡ 8 * n + o + k
      sum n o k = omega arith

  pub half-pixel : covered (moved_half t) s x y ≡ covered_by (point_in 0 0) t s x y
  unfolding covered sample
  half-pixel = offset-moved 0 0 4 4

-- "Planes still count from pixel (0, 0)"
pub plane-first : (p : Plane) → plane_at p 0 0 ≡ mod32 p.c
unfolding plane_at
plane-first p =
    ap mod32
    (solve (p.c ∷ p.a ∷ p.b ∷ []) (var 0 ⊕ var 1 ⊗ con (pos 0) ⊕ var 2 ⊗ con (pos 0)) (var 0) tt)

-- so what they give at a pixel does not move
pub moved-pixel : (right down : ℤ) (t : Triangle) (x y : ℕ) → triangle_pixel (moved right down t) x y ≡ triangle_pixel t x y
unfolding triangle_colour triangle_depth
moved-pixel right down t x y = refl

module _ (t : Triangle) (s : Screen) (m : List ℕ) where
  half_pixel_written : (x y : ℕ) → written (moved_half t) s m x y ≡ written_by (point_in 0 0) t s m x y
  unfolding written triangle_depth
  half_pixel_written x y = ap (λ (b : Bool). b && at_most_stored t s m x y) (half-pixel t s x y)

  pub half-pixel-counts :
      (covered_pixels (moved_half t) s ≡ pixels (covered_by (point_in 0 0) t s) (width s.size) (height s.size))
      × (written_pixels (moved_half t) s m ≡ pixels (written_by (point_in 0 0) t s m) (width s.size) (height s.size))
  half-pixel-counts = (
    pixels_same _ _ _ _ (λ x y a b. half-pixel t s x y),
    pixels_same _ _ _ _ (λ x y a b. half_pixel_written x y),
  )

  pub half_pixel_paints : sound (length m) s ≡ true
      → Painted s (written_by (point_in 0 0) t s m) (triangle_pixel t) m (drawn (moved_half t) s m)
  unfolding triangle_colour triangle_depth
  half_pixel_paints h =
      subst (λ (picked : ℕ → ℕ → Bool). Painted s picked (triangle_pixel t) m (drawn (moved_half t) s m))
      (λ i x y. half_pixel_written x y i)
      (drawn_pointwise s m h (moved_half t))

-- whole pixels, i columns and j rows

module _ (i j x y : ℕ) where
  pub whole_pixels_inside : (a b : ℕ) (v : Vertices)
      → inside_all (moved_vertices (pos (8 * i)) (pos (8 * j)) v) (point_in a b (x + i) (y + j)) ≡ inside_all v (point_in a b x y)
  whole_pixels_inside a b v =
      ap (inside_all (moved_vertices (pos (8 * i)) (pos (8 * j)) v)) (λ k. record { px = pos (sum x a i k); py = pos (sum y b j k) })
      ∙ moved_inside_all (pos (8 * i)) (pos (8 * j)) v (point_in a b x y)
    where
      sum : (n o k : ℕ) → 8 * (n + k) + o ≡ 8 * n + o + 8 * k
      sum n o k = omega arith

  module _ (t : Triangle) (s : Screen) where
    on_screen_before : on_screen s (x + i) (y + j) ≡ true → on_screen s x y ≡ true
    on_screen_before h =
        let (a, b) = and_true {a = ltb (x + i) (width s.size)} h in
        rw (less x i (width s.size) a, less y j (height s.size) b)
      where
        less : (n k limit : ℕ) → ltb (n + k) limit ≡ true → ltb n limit ≡ true
        less n k limit e = lt-ltb n limit (omega (arith, ltb-true (n + k) limit e))

    pub whole-pixels : on_screen s (x + i) (y + j) ≡ true
        → covered (moved (pos (8 * i)) (pos (8 * j)) t) s (x + i) (y + j) ≡ covered t s x y
    unfolding covered sample
    whole-pixels h = rw (h, on_screen_before h) (whole_pixels_inside sample_offset sample_offset t.vertices)
