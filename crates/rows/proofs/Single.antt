-- A row of which one pixel alone can be covered: what is counted and drawn in it is that pixel's.
use Prim.Native.Nat.{ℕ, ◌+◌, ◌-◌, ◌<◌}
use mathlib.Core.Path.{◌≡◌, refl, sym, ◌∙◌, ap}
use mathlib.Core.Logic.{◌≢◌}
use mathlib.Core.Bool.{Bool, true, false}
use native.Mathlib.Omega.{arith}
use lib.Count.{ones}
use lib.Dec.{leb}
use borrow.Author.Tests.{leb-true, leb-false}
use Rattle.rules.specs.Folds.{upto, bit, how_many}
use Rattle.rules.specs.Sizes.{width}
use Rattle.rules.specs.Triangles.{row_drawn}
use Rattle.rules.proofs.Folds.{upto_more, upto_add, upto_still, how_many-none, how_many_more, how_many-add}
use Rattle.masks.specs.Mask.{mask_of}
use Rattle.masks.specs.Span.{in_span}
use Rattle.masks.proofs.Columns.{span_within, span-before, span-beyond}
use Rattle.masks.proofs.Mask.{mask_ones}
use Rattle.rows.specs.declared.Line.{Line}
use Rattle.rows.specs.Lines.{covered_in, written_in, drawn_in, Drawing, drawing, Writing}
use Rattle.rows.specs.Rows.{LoneAsked, RowDone}
use Rattle.rows.proofs.Stretch.{not_written, pixel_still}

-- a test that one number alone can pass
module _ (f : ℕ → Bool) (x n : ℕ) (h : x < n) (others : (k : ℕ) → k < n → k ≢ x → f k ≡ false) where
  pub one_counted : how_many f n ≡ bit (f x)
  one_counted =
      let e : x + 1 + (n - x - 1) ≡ n = omega arith in
      omega (
        arith,
        ap (how_many f) e,
        how_many-add f (x + 1) (n - x - 1),
        how_many_more f x,
        how_many-none f x (λ k i. others k (omega arith) (λ j. omega arith)),
        how_many-none (λ k. f (x + 1 + k)) (n - x - 1) (λ k i. others (x + 1 + k) (omega arith) (λ j. omega arith)),
      )

-- the mask of one leaf of a group
pub one_leaf : (leaf : ℕ) → leaf < 16 → ones (mask_of (in_span leaf (leaf + 1)) 16) ≡ 1
one_leaf leaf h =
    mask_ones (in_span leaf (leaf + 1)) 16
    ∙ one_counted (in_span leaf (leaf + 1)) leaf 16 h out
    ∙ ap bit (span_within leaf (leaf + 1) leaf (omega arith) (omega arith))
  where
    out : (k : ℕ) → k < 16 → k ≢ leaf → in_span leaf (leaf + 1) k ≡ false
    out k l n = go (leb k leaf) refl
      where
        go : (b : Bool) → leb k leaf ≡ b → in_span leaf (leaf + 1) k ≡ false
        go true e = span-before leaf (leaf + 1) k (omega (arith, leb-true k leaf e))
        go false e = span-beyond leaf (leaf + 1) k (omega (arith, leb-false k leaf e))

module _ {l : Line} {x : ℕ} {on : Bool} {d : Drawing} (q : LoneAsked l x on d) where
  abbrev w : ℕ
  w = width l.screen.size

  covered-count : how_many (covered_in l) w ≡ bit on
  covered-count = one_counted (covered_in l) x w q.across q.others ∙ ap bit q.here

  written_count : how_many (written_in l d.ram) w ≡ bit (written_in l d.ram x)
  written_count =
      one_counted (written_in l d.ram) x w q.across (λ k h n. not_written l d.ram k (q.others k h n))

  row_is : row_drawn l.triangle l.screen l.row d.ram ≡ drawn_in l x d.ram
  unfolding row_drawn
  row_is =
      let m = d.ram in
      let e : x + 1 + (w - x - 1) ≡ w = omega (arith, q.across) in
      ap (λ (n : ℕ). upto (drawn_in l) n m) (sym e)
      ∙ upto_add (drawn_in l) (x + 1) (w - x - 1) m
      ∙ upto_still (λ k. drawn_in l (x + 1 + k)) (w - x - 1) (upto (drawn_in l) (x + 1) m)
      (λ k h. pixel_still l (x + 1 + k) (upto (drawn_in l) (x + 1) m) (q.others (x + 1 + k) (omega (arith, q.across)) (λ j. omega arith)))
      ∙ upto_more (drawn_in l) x m
      ∙ ap (drawn_in l x) (upto_still (drawn_in l) x m (λ k h. pixel_still l k m (q.others k (omega (arith, q.across)) (λ j. omega arith))))

  pub lone_off : on ≡ false → RowDone l d d
  lone_off e =
      record {
        covers = omega (arith, covered-count, ap bit e);
        writes = omega (arith, written_count, ap bit (not_written l d.ram x (q.here ∙ e)));
        leaves = sym (row_is ∙ pixel_still l x d.ram (q.here ∙ e));
      }

  pub lone_on : on ≡ true → {n : ℕ} {v : Writing}
      → n ≡ d.counts.covered + 1
      → v.count ≡ d.counts.written + bit (written_in l d.ram x)
      → v.ram ≡ drawn_in l x d.ram
      → RowDone l d (drawing v.ram (record { covered = n; written = v.count }))
  lone_on e i j k =
      record {
        covers = omega (arith, i, covered-count, ap bit e);
        writes = omega (arith, j, written_count);
        leaves = k ∙ sym row_is;
      }
