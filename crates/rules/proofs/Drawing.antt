-- What drawing a pixel, a row, a frame leaves, cell by cell: each pixel's cell is changed at most once, so whether a pixel is written
-- may be read off the memory before the drawing or at any time before its own step.
use Prim.Native.Nat.{ℕ, ◌≤◌, ◌<◌}
use mathlib.Core.Path.{◌≡◌, refl, ◌∙◌, ap}
use mathlib.Core.Logic.{inl, inr}
use mathlib.Core.Bool.{Bool, true, false, ◌&&◌}
use mathlib.Core.List.{List}
use native.Mathlib.Omega.{arith}
use lib.ListN.{length}
use lib.Dec.{leb}
use borrow.Author.Tests.{ltb-true}
use Rattle.rules.specs.declared.Screen.{Screen}
use Rattle.rules.specs.declared.Triangle.{Triangle}
use Rattle.rules.specs.Folds.{upto, choose}
use Rattle.ram.specs.Ram.{load_half}
use Rattle.rules.specs.Sizes.{width, height, put_pixel}
use Rattle.rules.specs.Triangles.{covered, written, triangle_colour, triangle_depth, pixel_drawn, row_drawn, drawn}
use Rattle.rules.specs.Calls.{cleared}
use Rattle.rules.proofs.Folds.{upto-keeps}
use Rattle.ram.proofs.Halves.{joined}
use Rattle.rules.proofs.Pixels.{On, Other, Sound, and_l, and_r, Cell, cell, painted, length-put_pixel}
use Rattle.rules.proofs.Memory.{PixelSet, Touched, Only, Row, Rows, touched_same, touched_put, row_of_steps, rows_of_steps}

-- a covered pixel is a pixel of the screen
pub covered_on : (t : Triangle) {s : Screen} {x y : ℕ} → covered t s x y ≡ true → On s x y
unfolding covered
covered_on t e = search (and_l, and_r, ltb-true)

-- the lengths

module _ (t : Triangle) (s : Screen) where
  pub length-pixel : (y x : ℕ) (m : List ℕ) → length (pixel_drawn t s y x m) ≡ length m
  unfolding pixel_drawn
  length-pixel y x m = go (written t s m x y)
    where
      go : (b : Bool) → length (choose b (put_pixel s x y (triangle_colour t x y) (triangle_depth t x y) m) m) ≡ length m
      go true = length-put_pixel s x y (triangle_colour t x y) (triangle_depth t x y) m
      go false = refl

  pub length-pixels : (y k : ℕ) (m : List ℕ) → length (upto (pixel_drawn t s y) k m) ≡ length m
  length-pixels y k m = upto-keeps (pixel_drawn t s y) (λ l. length l ≡ length m) k m (λ x l h e. length-pixel y x l ∙ e) refl

  pub length-row : (y : ℕ) (m : List ℕ) → length (row_drawn t s y m) ≡ length m
  unfolding row_drawn
  length-row y m = length-pixels y (width s.size) m

  pub length_rows : (k : ℕ) (m : List ℕ) → length (upto (row_drawn t s) k m) ≡ length m
  length_rows k m = upto-keeps (row_drawn t s) (λ l. length l ≡ length m) k m (λ y l h e. length-row y l ∙ e) refl

  pub length-drawn : (m : List ℕ) → length (drawn t s m) ≡ length m
  unfolding drawn
  length-drawn m = length_rows (height s.size) m

-- what the triangle makes of a pixel's cell
unfoldable pub merged : Triangle → Screen → ℕ → ℕ → Cell → Cell
merged t s x y c =
    choose (covered t s x y && leb (triangle_depth t x y) (joined c.depth))
    (painted (triangle_colour t x y) (triangle_depth t x y))
    c

pub merged_cell : (t : Triangle) (s : Screen) (m : List ℕ) (x y : ℕ)
    → merged t s x y (cell s m x y)
    ≡ choose (written t s m x y) (painted (triangle_colour t x y) (triangle_depth t x y)) (cell s m x y)
unfolding merged written load_half
merged_cell t s m x y = refl

module _ {n : ℕ} {s : Screen} (k : Sound n s) (t : Triangle) where
  pub touched_pixel : (x y : ℕ) (m : List ℕ)
      → On s x y
      → length m ≡ n
      → Touched s (merged t s) (Only y x) m (pixel_drawn t s y x m)
  unfolding pixel_drawn
  touched_pixel x y m p l = go (written t s m x y) (merged_cell t s m x y)
    where
      go : (b : Bool)
          → merged t s x y (cell s m x y) ≡ choose b (painted (triangle_colour t x y) (triangle_depth t x y)) (cell s m x y)
          → Touched s (merged t s) (Only y x) m (choose b (put_pixel s x y (triangle_colour t x y) (triangle_depth t x y) m) m)
      go true e = touched_put k p (merged t s) m (triangle_colour t x y) (triangle_depth t x y) l e
      go false e = touched_same k p (merged t s) m e

  touched_row : (i y : ℕ) (m : List ℕ) → i ≤ width s.size → y < height s.size → length m ≡ n
      → Touched s (merged t s) (Row i y) m (upto (pixel_drawn t s y) i m)
  touched_row i y m a b l = row_of_steps n (pixel_drawn t s) touched_pixel i y m a b l

  pub touched_rows : (j : ℕ) (m : List ℕ)
      → j ≤ height s.size
      → length m ≡ n
      → Touched s (merged t s) (Rows s j) m (upto (row_drawn t s) j m)
  unfolding row_drawn
  touched_rows j m a l = rows_of_steps n (pixel_drawn t s) touched_pixel j m a l

  pub touched_drawn : (m : List ℕ) → length m ≡ n → Touched s (merged t s) (Rows s (height s.size)) m (drawn t s m)
  unfolding drawn
  touched_drawn m l = touched_rows (height s.size) m (omega arith) l

module _ {n : ℕ} {s : Screen} (k : Sound n s) (colour depth : ℕ) where
  pub touched_cleared : (m : List ℕ)
      → length m ≡ n
      → Touched s (λ x y c. painted colour depth) (Rows s (height s.size)) m (cleared s colour depth m)
  unfolding cleared
  touched_cleared m l =
      rows_of_steps n (λ y x. put_pixel s x y colour depth)
      (λ x y m p l. touched_put k p (λ x y c. painted colour depth) m colour depth l refl)
      (height s.size) m (omega arith) l

-- whether a pixel is written, while others are drawn
module _ (t : Triangle) {s : Screen} {g : ℕ → ℕ → Cell → Cell} {D : PixelSet} {l m : List ℕ} where
  pub written_kept : {x y : ℕ} → Touched s g D l m → On s x y → ¬ D x y → written t s m x y ≡ written t s l x y
  unfolding written load_half
  written_kept {x} {y} c p d =
      ap (λ z. covered t s x y && leb (triangle_depth t x y) (joined z.depth)) (c.kept p d)

module _ {n : ℕ} {s : Screen} (k : Sound n s) (t : Triangle) (m : List ℕ) (l : length m ≡ n) where
  pub written-pixel : {x y x' y' : ℕ}
      → On s x y
      → On s x' y'
      → Other x y x' y'
      → written t s (pixel_drawn t s y x m) x' y' ≡ written t s m x' y'
  written-pixel {x} {y} p q o = written_kept t (touched_pixel k t x y m p l) q (not_only o)
    where
      not_only : {x y x' y' : ℕ} → Other x y x' y' → ¬ Only y x x' y'
      not_only (inl d) e = d e.0
      not_only (inr d) e = d e.1

  pub written-left : {i x y : ℕ} → On s x y → i ≤ x → written t s (upto (pixel_drawn t s y) i m) x y ≡ written t s m x y
  written-left {i} {x} {y} p h =
      written_kept t (touched_row k t i y m (omega (arith, p.across)) p.down l) p
      (λ e. omega (arith, e.1, e.2.0))

  pub written_rows : {j x y : ℕ} → On s x y → j ≤ y → written t s (upto (row_drawn t s) j m) x y ≡ written t s m x y
  written_rows {j} {x} {y} p h =
      written_kept t (touched_rows k t j m (omega (arith, p.down)) l) p
      (λ e. omega (arith, e.1, e.2.2.1))
