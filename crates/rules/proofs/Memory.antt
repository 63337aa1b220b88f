-- A memory pixel by pixel: two memories with equal cells and equal bytes outside are equal, and a fold that changes each pixel's cell
-- once is known by its cells. A step's pixels and those of the steps before are kept apart by a predicate on pixels.
use Prim.Native.Nat.{ℕ, zero, suc, ◌≤◌, ◌<◌}
use mathlib.Core.Path.{◌≡◌, refl, sym, ◌∙◌, ap}
use mathlib.Core.Logic.{◌⊎◌, inl, inr, ◌↔◌}
use mathlib.Core.List.{List}
use native.Mathlib.Omega.{arith}
use native.Mathlib.Decide.{ℕ_discrete}
use lib.ListN.{length, get_or}
use lib.Seq.{ext_get_or}
use Rattle.rules.specs.declared.Screen.{Screen}
use Rattle.rules.specs.Folds.{upto}
use Rattle.rules.specs.Sizes.{width, height, put_pixel}
use Rattle.ram.proofs.Halves.{bytes}
use Rattle.rules.proofs.Pixels.{On, Other, Sound, ByteOf, Outside, Stands, in_colour_lem, in_depth, outside, stands, other?}
use Rattle.rules.proofs.Pixels.{Cell, cell, painted, length-put_pixel, cell_put_same, cell_put_other, byte_put_outside}

module _ (s : Screen) (l m : List ℕ) where
  same_byte : {a b : ℕ} → ByteOf a b → bytes l a ≡ bytes m a → get_or l b 0 ≡ get_or m b 0
  same_byte (inl e) h = rw e (ap (λ z. z.high) h)
  same_byte (inr e) h = rw e (ap (λ z. z.low) h)

  pub same_memory : length l ≡ length m
      → ((x y : ℕ) → On s x y → cell s l x y ≡ cell s m x y)
      → ((b : ℕ) → Outside s b → get_or l b 0 ≡ get_or m b 0)
      → l ≡ m
  same_memory e c o = ext_get_or 0 l m e (λ b h. go b (stands s b))
    where
      go : (b : ℕ) → Stands s b → get_or l b 0 ≡ get_or m b 0
      go b (in_colour_lem p i) = same_byte i (ap (λ z. z.colour) (c _ _ p))
      go b (in_depth p i) = same_byte i (ap (λ z. z.depth) (c _ _ p))
      go b (outside n) = o b n

-- a set of pixels, by their columns and rows
abbrev pub PixelSet : Type 1
PixelSet = ℕ → ℕ → Type 0

-- `after` is `before` with the cell of each pixel of D changed by g, and all else kept
pub record Touched (s : Screen) (g : ℕ → ℕ → Cell → Cell) (D : PixelSet) (before after : List ℕ) : Type 0 where
  pub same_length : length after ≡ length before
  pub changed : {x y : ℕ} → On s x y → D x y → cell s after x y ≡ g x y (cell s before x y)
  pub kept : {x y : ℕ} → On s x y → ¬ D x y → cell s after x y ≡ cell s before x y
  pub beyond : {b : ℕ} → Outside s b → get_or after b 0 ≡ get_or before b 0

-- the pixels of the steps before step k, where those of step i are E i
abbrev pub Below : (ℕ → PixelSet) → ℕ → PixelSet
Below E k x y = (i : ℕ) × (i < k) × E i x y

one_more : (E : ℕ → PixelSet) (k x y : ℕ) → Below E (suc k) x y ↔ (Below E k x y ⊎ E k x y)
one_more E k x y = (λ b. go b (ℕ_discrete b.0 k), back)
  where
    go : (b : Below E (suc k) x y) → Dec (b.0 ≡ k) → Below E k x y ⊎ E k x y
    go b (yes q) = inr (rw q at b.2)
    go b (no q) = inl (b.0, omega (arith, b.1), b.2)

    back : Below E k x y ⊎ E k x y → Below E (suc k) x y
    back (inl b) = (b.0, omega (arith, b.1), b.2)
    back (inr e) = (k, omega arith, e)

module _ {s : Screen} {g : ℕ → ℕ → Cell → Cell} where
  -- first the pixels of D, then those of E, which are others: together those of F
  pub touched_then : {D E F : PixelSet} {l m k : List ℕ}
      → Touched s g D l m
      → Touched s g E m k
      → ((x y : ℕ) → D x y → ¬ E x y)
      → ((x y : ℕ) → F x y ↔ (D x y ⊎ E x y))
      → Touched s g F l k
  touched_then {D} {E} {F} {l} {m} {k} d e n u = record {
    same_length = e.same_length ∙ d.same_length;
    changed = λ {x} {y} p f. go x y p ((u x y).0 f);
    kept = λ {x} {y} p f. e.kept p (λ h. f ((u x y).1 (inr h))) ∙ d.kept p (λ h. f ((u x y).1 (inl h)));
    beyond = λ o. e.beyond o ∙ d.beyond o;
  }
    where
      go : (x y : ℕ) → On s x y → D x y ⊎ E x y → cell s k x y ≡ g x y (cell s l x y)
      go x y p (inl h) = e.kept p (n x y h) ∙ d.changed p h
      go x y p (inr h) = e.changed p h ∙ ap (g x y) (d.kept p (λ h'. n x y h' h))

  -- step i touches the pixels of E i, and no pixel is touched in two steps
  module _
      (n : ℕ)
      {E : ℕ → PixelSet}
      (f : ℕ → List ℕ → List ℕ)
      (once : (i j x y : ℕ) → E i x y → E j x y → i ≡ j)
    where
      pub touched_folds : (k : ℕ)
          → ((i : ℕ) (m : List ℕ) → i < k → length m ≡ n → Touched s g (E i) m (f i m))
          → (m : List ℕ)
          → length m ≡ n
          → Touched s g (Below E k) m (upto f k m)
      unfolding upto
      touched_folds zero t m l = record {
        same_length = refl;
        changed = λ p d. absurd (omega (arith, d.1));
        kept = λ p d. refl;
        beyond = λ o. refl;
      }
      touched_folds (suc k) t m l =
          let b : Touched s g (Below E k) m (upto f k m) = touched_folds k (λ i m h. t i m (omega arith)) m l in
          touched_then b (t k (upto f k m) (omega arith) (b.same_length ∙ l))
          (λ x y d e. omega (arith, d.1, once d.0 k x y d.2 e))
          (one_more E k)

-- pixel (x, y) alone; the first k pixels of row y; the first h rows
abbrev pub Only : ℕ → ℕ → PixelSet
Only y x x' y' = (x' ≡ x) × (y' ≡ y)

abbrev pub Row : ℕ → ℕ → PixelSet
Row k y = Below (Only y) k

abbrev pub Rows : Screen → ℕ → PixelSet
Rows s h = Below (Row (width s.size)) h

pub on_rows : {s : Screen} {x y : ℕ} → On s x y → Rows s (height s.size) x y
on_rows {s} {x} {y} p = (y, p.down, (x, p.across, (refl, refl)))

module _ {n : ℕ} {s : Screen} (k : Sound n s) {x y : ℕ} (p : On s x y) (g : ℕ → ℕ → Cell → Cell) (m : List ℕ) where
  pub touched_same : g x y (cell s m x y) ≡ cell s m x y → Touched s g (Only y x) m m
  touched_same e = record {
    same_length = refl;
    changed = λ q d. rw (d.0, d.1) (sym e);
    kept = λ q d. refl;
    beyond = λ o. refl;
  }

  pub touched_put : (c d : ℕ)
      → length m ≡ n
      → g x y (cell s m x y) ≡ painted c d
      → Touched s g (Only y x) m (put_pixel s x y c d m)
  touched_put c d l e = record {
    same_length = length-put_pixel s x y c d m;
    changed = λ q o. rw (o.0, o.1) (cell_put_same k p c d m l ∙ sym e);
    kept = λ {x = x'} {y = y'} q o. cell_put_other k p c d m q (other x' y' o (other? x y x' y'));
    beyond = λ o. byte_put_outside k p c d m o;
  }
    where
      other : (x' y' : ℕ) → ¬ Only y x x' y' → Only y x x' y' ⊎ Other x y x' y' → Other x y x' y'
      other x' y' o (inl e) = absurd (o e)
      other x' y' o (inr h) = h

-- a step at each pixel, row by row
module _ {s : Screen} {g : ℕ → ℕ → Cell → Cell}
    (n : ℕ)
    (step : ℕ → ℕ → List ℕ → List ℕ)
    (one : (x y : ℕ) (m : List ℕ) → On s x y → length m ≡ n → Touched s g (Only y x) m (step y x m)) where
  pub row_of_steps : (k y : ℕ) (m : List ℕ)
      → k ≤ width s.size
      → y < height s.size
      → length m ≡ n
      → Touched s g (Row k y) m (upto (step y) k m)
  row_of_steps k y m a b l =
      touched_folds n (step y) (λ i j x' y' d e. sym d.0 ∙ e.0) k
      (λ i m h. one i y m (record { across = omega arith; down = b }))
      m l

  pub rows_of_steps : (h : ℕ) (m : List ℕ)
      → h ≤ height s.size
      → length m ≡ n
      → Touched s g (Rows s h) m (upto (λ y. upto (step y) (width s.size)) h m)
  rows_of_steps h m a l =
      touched_folds n (λ y. upto (step y) (width s.size)) (λ i j x y d e. sym d.2.1 ∙ e.2.1) h
      (λ y m b. row_of_steps (width s.size) y m (omega arith) (omega arith))
      m l
