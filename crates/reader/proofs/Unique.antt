-- No second outcome meets what the row reader promises of either area: the number, the bytes, the pointer and the located part are
-- values of the inputs, and the number and the part tell which answer it was.
use Prim.Native.Nat.{ℕ}
use native.Mathlib.Omega.{arith}
use Rattle.std.specs.Prelude.{Result}
use Rattle.std.specs.declared.ops.Range.{Range}
use Rattle.rules.specs.declared.Refusal.{Refusal}
use Rattle.rules.specs.Answers.{number_of, refusal_number}
use Rattle.rules.specs.Calls.{row_length}
use Rattle.reader.proofs.RowBounds.{row_wide}
use Rattle.reader.specs.Parts.{part_of}
use mathlib.Core.Path.{◌≡◌, sym, ◌∙◌}
use mathlib.Core.List.{List}
use denote.Ref.{Bor}
use Rattle.rules.specs.declared.Screen.{Screen}
use Rattle.rules.specs.Sizes.{Area}
use Rattle.reader.specs.declared.RowPart.{RowPart}
use Rattle.reader.specs.Rows.{Checks, HandsBack, Locates}

pub row_number_unique : {n row k l : ℕ} {s : Screen} → Checks n s row k → Checks n s row l → k ≡ l
row_number_unique a b = a.answers ∙ sym b.answers

pub locates_unique : {at : Area} {n row : ℕ} {s : Screen} {p q : RowPart} → Locates at n s row p → Locates at n s row q → p ≡ q
locates_unique a b = λ i. record {
  number = (a.answers ∙ sym b.answers) i;
  start = (a.starts ∙ sym b.starts) i;
  length = (a.spans ∙ sym b.spans) i;
}

pub hands_back_unique : {at : Area} {ram p q : Bor (List ℕ)} {s : Screen} {row : ℕ}
    → HandsBack at ram s row p
    → HandsBack at ram s row q
    → (p.now ≡ q.now) × (p.ref_ptr ≡ q.ref_ptr)
hands_back_unique a b = (a.bytes ∙ sym b.bytes, λ i. ((a.block ∙ sym b.block) i, (a.offset ∙ sym b.offset) i))

same_refusal : (a b : Refusal) → refusal_number a ≡ refusal_number b → a ≡ b
same_refusal a b e = grind arith

pub row_check_unique : {n row : ℕ} {s : Screen} (p q : Result (Unit {0}) Refusal) → Checks n s row (number_of p) → Checks n s row (number_of q) → p ≡ q
row_check_unique p q a b = let e = row_number_unique a b in grind (arith, same_refusal)

pub row_part_unique : {at : Area} {n row : ℕ} {s : Screen} (p q : Result (Range ℕ) Refusal)
    → Locates at n s row (part_of p)
    → Locates at n s row (part_of q)
    → p ≡ q
unfolding row_length
row_part_unique p q a b = grind (arith, same_refusal, row_wide)
