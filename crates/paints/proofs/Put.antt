-- TREEPUT pixel by pixel: each leaf touches the cell of its own pixel and no other, so after all sixteen the cells are known, and with them
-- the memory.
use Prim.Native.Nat.{ℕ, ◌+◌, ◌≤◌, ◌<◌}
use mathlib.Core.Path.{◌≡◌, refl, sym, ◌∙◌, ap}
use mathlib.Core.Logic.{◌⊎◌, inl, inr}
use mathlib.Core.Bool.{Bool, true, false, ◌&&◌, false≢true}
use mathlib.Core.List.{List}
use native.Mathlib.Omega.{arith}
use lib.ListN.{length}
use lib.Dec.{leb, ltb, eqb}
use borrow.Author.Tests.{ltb-true, leb-true, eqb-true, lt-ltb, le-leb, eq-eqb}
use Rattle.rules.specs.declared.Screen.{Screen}
use Rattle.rules.specs.Folds.{choose}
use Rattle.ram.specs.Ram.{store_half}
use Rattle.rules.specs.Sizes.{sound, colour_at, depth_at, put_pixel}
use Rattle.ram.proofs.Halves.{Bytes, split, bytes, length-store_half, byte_stored_other, bytes_stored_same, bytes_stored_other}
use Rattle.rules.proofs.Pixels.{On, Other, Sound, and_l, and_r, sound_facts, other?, colour-fits, colour_apart, colour_depth_apart, Cell}
use Rattle.rules.proofs.Pixels.{cell}
use Rattle.rules.proofs.Memory.{PixelSet, Touched, Below, Only, touched_folds, touched_same, touched_put}
use Rattle.instructions.specs.declared.Tree.{Tree}
use Rattle.instructions.specs.Tree.{leaf_colour, leaf_depth, refuses_place, is_put, leaf_put, tree_put}
use Rattle.instructions.proofs.Standing.{leaf_on}
use Rattle.paints.specs.Paint.{pixel_colour, pixel_depth, PaintedWith}
use Rattle.paints.specs.Trees.{leaf_column, under_tree, leaf_of, leaf_colours, leaf_depths}
use Rattle.paints.proofs.Painted.{dyed_cell, from_cells, painted_with_unique, colour-after, depth-after}

-- a pixel's colour alone
module _ {n : ℕ} {s : Screen} (k : Sound n s) {x y : ℕ} (p : On s x y) (g : ℕ → ℕ → Cell → Cell) (m : List ℕ) where
  touched_colour : (c : ℕ)
      → length m ≡ n
      → g x y (cell s m x y) ≡ record { colour = split c; depth = bytes m (depth_at s x y) }
      → Touched s g (Only y x) m (store_half m (colour_at s x y) c)
  touched_colour c l e = record {
    same_length = length-store_half m a c;
    changed = λ q o. rw (o.0, o.1) (here ∙ sym e);
    kept = λ {x = x'} {y = y'} q o. there x' y' q o (other? x y x' y');
    beyond = λ {b} o. byte_stored_other m a c b (λ i. o.no_colour p (inl i)) (λ i. o.no_colour p (inr i));
  }
    where
      a : ℕ
      a = colour_at s x y

      here : cell s (store_half m a c) x y ≡ record { colour = split c; depth = bytes m (depth_at s x y) }
      here = λ i. record {
        colour = bytes_stored_same m a c (rw l (colour-fits k p)) i;
        depth = bytes_stored_other m a c (depth_at s x y) (colour_depth_apart k p p) i;
      }

      there : (x' y' : ℕ) → On s x' y' → ¬ Only y x x' y' → Only y x x' y' ⊎ Other x y x' y'
          → cell s (store_half m a c) x' y' ≡ cell s m x' y'
      there x' y' q o (inl d) = absurd (o d)
      there x' y' q o (inr d) = λ i. record {
        colour = bytes_stored_other m a c (colour_at s x' y') (colour_apart k p q d) i;
        depth = bytes_stored_other m a c (depth_at s x' y') (colour_depth_apart k p q) i;
      }

-- what leaf i makes of its pixel's cell
abbrev leaf_cell : Tree → ℕ → Cell → Cell
leaf_cell t i c =
    choose (is_put t i)
    (record { colour = split (leaf_colour t i); depth = choose t.held (split (leaf_depth t i)) c.depth })
    c

-- the pixels of leaf i
abbrev LeafPixel : Tree → ℕ → PixelSet
LeafPixel t i = Only t.row (leaf_column t i)

module _ {n : ℕ} {s : Screen} (k : Sound n s) (t : Tree) (p : refuses_place s t.column t.row ≡ false) where
  touched_leaf : (i : ℕ) (m : List ℕ) → i < 16 → length m ≡ n
      → Touched s (λ x y. leaf_cell t (leaf_of t x)) (LeafPixel t i) m (leaf_put s t i m)
  unfolding leaf_put
  touched_leaf i m h l = go (is_put t i) t.held refl refl
    where
      on : On s (leaf_column t i) t.row
      on = leaf_on s t.column t.row p h

      old : Cell
      old = cell s m (leaf_column t i) t.row

      is : leaf_cell t (leaf_of t (leaf_column t i)) old ≡ leaf_cell t i old
      is = ap (λ j. leaf_cell t j old) (omega arith)

      go : (a b : Bool) → is_put t i ≡ a → t.held ≡ b
          → Touched s (λ x y. leaf_cell t (leaf_of t x)) (LeafPixel t i) m
          (choose a
          (choose b
          (put_pixel s (leaf_column t i) t.row (leaf_colour t i) (leaf_depth t i) m)
          (store_half m (colour_at s (leaf_column t i) t.row) (leaf_colour t i)))
          m)
      go true true e f = touched_put k on (λ x y. leaf_cell t (leaf_of t x)) m (leaf_colour t i) (leaf_depth t i) l (is ∙ rw (e, f))
      go true false e f = touched_colour k on (λ x y. leaf_cell t (leaf_of t x)) m (leaf_colour t i) l (is ∙ rw (e, f))
      go false b e f = touched_same k on (λ x y. leaf_cell t (leaf_of t x)) m (is ∙ rw e)

  touched_tree : (m : List ℕ) → length m ≡ n
      → Touched s (λ x y. leaf_cell t (leaf_of t x)) (Below (LeafPixel t) 16) m (tree_put s t m)
  unfolding tree_put
  touched_tree m l =
      touched_folds n (leaf_put s t) (λ i j x y d e. omega (arith, d.0, e.0)) 16 (λ i m h. touched_leaf i m h) m l

-- the sixteen pixels, by the test and by the leaf
module _ (t : Tree) where
  leaf_of_lem : {x y : ℕ} → under_tree t x y ≡ true → Below (LeafPixel t) 16 x y
  leaf_of_lem {x} {y} e =
      let a : Bool = eqb y t.row in
      let b : Bool = leb t.column x in
      let c : Bool = ltb x (t.column + 16) in
      let left : t.column ≤ x = leb-true _ _ (and_r a b (and_l (a && b) c e)) in
      let right : x < t.column + 16 = ltb-true _ _ (and_r (a && b) c e) in
      (leaf_of t x, omega arith, (omega arith, eqb-true _ _ (and_l a b (and_l (a && b) c e))))

  pub leaf_under : (k : ℕ) → k < 16 → under_tree t (leaf_column t k) t.row ≡ true
  leaf_under k h =
      rw (
        eq-eqb t.row t.row refl,
        le-leb t.column (leaf_column t k) (omega arith),
        lt-ltb (leaf_column t k) (t.column + 16) (omega arith),
      )

  pub leaf_of_column : (k : ℕ) → leaf_of t (leaf_column t k) ≡ k
  leaf_of_column k = omega arith

  under_leaf : {x y : ℕ} → Below (LeafPixel t) 16 x y → under_tree t x y ≡ true
  under_leaf (k, h, (e, f)) = rw (e, f) (leaf_under k h)

chosen : (a b : Bool) (c d : Bytes) (z : Cell)
    → choose a (record { colour = c; depth = choose b d z.depth }) z
    ≡ record { colour = choose a c z.colour; depth = choose (a && b) d z.depth }
chosen true b c d z = refl
chosen false b c d z = refl

-- a leaf with I = 1 or O = 0 puts its colour at its pixel, and its depth only if one is held; all else stays
module _ (s : Screen) (m : List ℕ) (h : sound (length m) s ≡ true) (t : Tree) (p : refuses_place s t.column t.row ≡ false) where
  pub tree_put_paints : PaintedWith s (leaf_colours t) (leaf_depths t) m (tree_put s t m)
  tree_put_paints = from_cells done.same_length (λ x y o. go x y o (under_tree t x y) refl) (λ b o. done.beyond o)
    where
      done : Touched s (λ x y. leaf_cell t (leaf_of t x)) (Below (LeafPixel t) 16) m (tree_put s t m)
      done = touched_tree (sound_facts h) t p m refl

      go : (x y : ℕ) → On s x y → (u : Bool) → under_tree t x y ≡ u
          → cell s (tree_put s t m) x y ≡ dyed_cell s (leaf_colours t) (leaf_depths t) m x y
      go x y o true e =
          rw e (done.changed o (leaf_of_lem t e)
          ∙ chosen (is_put t (leaf_of t x)) t.held (split (leaf_colour t (leaf_of t x))) (split (leaf_depth t (leaf_of t x))) (cell s m x y))
      go x y o false e = rw e (done.kept o (λ b. false≢true (sym e ∙ under_leaf t b)))

  pub tree_put_unique : {after : List ℕ} → PaintedWith s (leaf_colours t) (leaf_depths t) m after → after ≡ tree_put s t m
  tree_put_unique q = painted_with_unique q tree_put_paints

  -- the same by the leaf
  module _ (k : ℕ) (l : k < 16) where
    on : On s (leaf_column t k) t.row
    on = leaf_on s t.column t.row p l

    pub leaf_colour_put : pixel_colour s (tree_put s t m) (leaf_column t k) t.row
        ≡ choose (is_put t k) (leaf_colour t k) (pixel_colour s m (leaf_column t k) t.row)
    leaf_colour_put =
        rw (leaf_under t k l, leaf_of_column t k) at (colour-after tree_put_paints (leaf_column t k) t.row on.across on.down)

    pub leaf_depth_put : pixel_depth s (tree_put s t m) (leaf_column t k) t.row
        ≡ choose (is_put t k && t.held) (leaf_depth t k) (pixel_depth s m (leaf_column t k) t.row)
    leaf_depth_put =
        rw (leaf_under t k l, leaf_of_column t k) at (depth-after tree_put_paints (leaf_column t k) t.row on.across on.down)
