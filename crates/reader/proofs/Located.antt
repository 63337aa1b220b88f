-- A row's part of an area, once over the area: where it stands, that it lies within the RAM, also where the row is refused and it is
-- empty, and that its bytes are the row's.
use Prim.Native.Nat.{ℕ, ◌+◌, ◌*◌, ◌-◌, ◌≤◌}
use mathlib.Core.Path.{◌≡◌, refl, sym, ◌∙◌, ap, ap₂}
use mathlib.Core.Bool.{Bool, true, false}
use mathlib.Core.List.{List}
use native.Mathlib.Omega.{arith}
use lib.ListN.{length, take, drop}
use lib.Dec.{eqb}
use denote.Ref.{Bor}
use borrow.Author.Tests.{eq-eqb, ne_eqb, eqb-true}
use Rattle.rules.specs.declared.Screen.{Screen}
use Rattle.rules.specs.Folds.{choose}
use Rattle.rules.specs.Sizes.{width, Area}
use Rattle.rules.specs.Numbers.{row_number}
use Rattle.rules.specs.Calls.{accepted, part_start, row_length, part_bytes}
use Rattle.rules.proofs.Strips.{RowByRow}
use Rattle.rules.proofs.Rows.{accepted-row}
use Rattle.reader.specs.declared.RowPart.{RowPart}
use Rattle.reader.specs.Rows.{Locates, HandsBack}
use Rattle.screen.proofs.Tests.{chosen, other}

-- an area of which only one place is told, where the row begins
abbrev pub begins_at : ℕ → Area
begins_at first s x y = first

-- `bytes` is what `part` locates in `ram`, and it points into `ram` itself
pub record IsPart (ram : Bor (List ℕ)) (part : RowPart) (bytes : Bor (List ℕ)) : Type 0 where
  pub holds : bytes.now ≡ take part.length (drop part.start ram.now)
  pub block : bytes.ref_ptr.0 ≡ ram.ref_ptr.0
  pub offset : bytes.ref_ptr.1 ≡ ram.ref_ptr.1 + part.start

module _ (n : ℕ) (s : Screen) (row : ℕ) where
  pub refused : (at : Area) (k : ℕ) → k ≡ row_number n s row → ¬ (k ≡ 0)
      → Locates at n s row (record { number = k; start = 0; length = 0 })
  unfolding part_start row_length
  refused at k e z =
      let f : eqb (row_number n s row) 0 ≡ false = ne_eqb _ _ (λ p. z (e ∙ p)) in
      record { answers = e; starts = other _ (at s 0 row) 0 f; spans = other _ (2 * width s.size) 0 f }

  pub found : (at : Area) (k w : ℕ) → k ≡ row_number n s row → k ≡ 0 → w ≡ width s.size
      → Locates at n s row (record { number = k; start = at s 0 row; length = 2 * w })
  unfolding part_start row_length
  found at k w e z r =
      let f : eqb (row_number n s row) 0 ≡ true = eq-eqb _ _ (sym e ∙ z) in
      record {
        answers = e;
        starts = chosen _ (at s 0 row) 0 f;
        spans = ap (λ k. 2 * k) r ∙ chosen _ (2 * width s.size) 0 f;
      }

  -- a part that begins where the area has the row's first pixel is the area's
  pub begun : (at : Area) {first : ℕ} {p : RowPart} → first ≡ at s 0 row → Locates (begins_at first) n s row p → Locates at n s row p
  unfolding part_start
  begun at e l = record {
    answers = l.answers;
    starts = l.starts ∙ ap (λ a. accepted (row_number n s row) a 0) e;
    spans = l.spans;
  }

  pub part_fits : {at : Area} → RowByRow at → {p : RowPart} → Locates at n s row p → p.start + p.length ≤ n
  unfolding part_start row_length
  part_fits {at} a {p} l = rw (l.starts, l.spans) (go (eqb (row_number n s row) 0) refl)
    where
      go : (t : Bool) → eqb (row_number n s row) 0 ≡ t → choose t (at s 0 row) 0 + choose t (2 * width s.size) 0 ≤ n
      go true e = (accepted-row a n s row (eqb-true (row_number n s row) 0 e)).fits
      go false e = omega arith

pub own_bytes : (m : List ℕ) (a l : ℕ) → take (a + l - a) (drop a m) ≡ take l (drop a m)
own_bytes m a l =
    let e : a + l - a ≡ l = omega arith in
    rw e

pub handed_back : {at : Area} {ram bytes : Bor (List ℕ)} {s : Screen} {row : ℕ} {p : RowPart}
    → Locates at (length ram.now) s row p → IsPart ram p bytes → HandsBack at ram s row bytes
unfolding part_bytes
handed_back {at} {ram} l i = record {
  bytes = i.holds ∙ ap₂ (λ a k. take k (drop a ram.now)) l.starts l.spans;
  block = i.block;
  offset = i.offset ∙ ap (λ a. ram.ref_ptr.1 + a) l.starts;
}
