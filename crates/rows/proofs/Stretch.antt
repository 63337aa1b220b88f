-- Laws of drawing a stretch of a row: covered pixels are on the screen, a pixel to come is judged as before the stretch, and pixels that
-- are not covered change nothing.
use Prim.Native.Nat.{ℕ, zero, suc, ◌+◌, ◌≤◌}
use mathlib.Core.Path.{◌≡◌, refl, ◌∙◌}
use mathlib.Core.Logic.{inl}
use mathlib.Core.Bool.{true, false}
use mathlib.Core.List.{List}
use native.Mathlib.Omega.{arith}
use lib.Dec.{ltb}
use lib.ListN.{length}
use borrow.Author.Tests.{ltb-true}
use Rattle.rules.specs.Folds.{upto}
use Rattle.rules.specs.Sizes.{width, height}
use Rattle.rules.specs.Triangles.{sample, inside_all, on_screen, covered, written, pixel_drawn}
use Rattle.rules.proofs.Folds.{upto-keeps}
use Rattle.rules.proofs.Pixels.{Sound, On, and_l, and_r}
use Rattle.rules.proofs.Drawing.{length-pixel, written-pixel}
use Rattle.rows.specs.declared.Line.{Line}
use Rattle.rows.specs.Lines.{covered_in, written_in, drawn_in}

module _ (l : Line) where
  pub covered_on : {x : ℕ} → covered_in l x ≡ true → On l.screen x l.row
  unfolding covered
  covered_on {x} h =
      let s = l.screen in
      let y = l.row in
      let o = and_l (on_screen s x y) (inside_all l.triangle.vertices (sample x y)) h in
      record {
        across = ltb-true x (width s.size) (and_l _ (ltb y (height s.size)) o);
        down = ltb-true y (height s.size) (and_r (ltb x (width s.size)) _ o);
      }

  pub not_written : (m : List ℕ) (x : ℕ) → covered_in l x ≡ false → written_in l m x ≡ false
  unfolding written
  not_written m x h = rw h

  pub pixel_still : (x : ℕ) (m : List ℕ) → covered_in l x ≡ false → drawn_in l x m ≡ m
  unfolding pixel_drawn
  pixel_still x m h = rw (not_written m x h)

  -- the stretch of n pixels from x on
  abbrev pub stretch : ℕ → ℕ → List ℕ → List ℕ
  stretch x n m = upto (λ k. drawn_in l (x + k)) n m

  pub length_stretch : (x n : ℕ) (m : List ℕ) → length (stretch x n m) ≡ length m
  length_stretch x n m =
      upto-keeps (λ k. drawn_in l (x + k)) (λ (k : List ℕ). length k ≡ length m) n m
      (λ i k h e. length-pixel l.triangle l.screen l.row (x + i) k ∙ e) refl

  -- a pixel to the right of the stretch
  pub written_stretch : {n : ℕ} → Sound n l.screen → (m : List ℕ) → length m ≡ n → (x i k : ℕ) → On l.screen (x + k) l.row → i ≤ k
      → written_in l (stretch x i m) (x + k) ≡ written_in l m (x + k)
  unfolding upto
  written_stretch q m e x zero k p h = refl
  written_stretch q m e x (suc i) k p h =
      written-pixel q l.triangle (stretch x i m) (length_stretch x i m ∙ e)
      (record { across = omega (arith, p.across); down = p.down }) p (inl (λ (j : x + k ≡ x + i). omega arith))
      ∙ written_stretch q m e x i k p (omega arith)
