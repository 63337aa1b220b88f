-- A table of reciprocals: one test, computed entry after entry, gives the rule at each; an entry is RECP's answer to its operand; and
-- only one table of a length has the rule.
use Prim.Native.Nat.{ℕ, zero, suc, ◌+◌, ◌-◌, ◌/◌, ◌≤◌, ◌<◌}
use mathlib.Core.Path.{◌≡◌, sym, ◌∙◌, ap, subst}
use mathlib.Core.Bool.{Bool, true, ◌&&◌}
use mathlib.Core.List.{List, [], ◌∷◌}
use native.Mathlib.Nat.{div-le_self}
use native.Mathlib.Omega.{arith}
use lib.Dec.{T, leb, eqb, leb→le, eqb→eq}
use lib.ListN.{length, get_or}
use lib.Seq.{ext_get_or}
use store.Enc.{and_l, and_r}
use borrow.Author.Tests.{ne_eqb}
use Rattle.ints.proofs.Modulo.{mod32-pos}
use Rattle.instructions.specs.Arithmetic.{reciprocal}
use Rattle.instructions.proofs.Meaning.{signed_low}
use Rattle.alu.specs.Reciprocals.{entry, Reciprocals}

abbrev quotient : ℕ → ℕ
quotient d = 2147483647 / d

-- the test: the entries are the quotients by d, d + 1, ..
abbrev quotients : ℕ → List ℕ → Bool
quotients d [] = true
quotients d (x ∷ xs) = eqb x (quotient d) && quotients (suc d) xs

abbrev pub all_right : List ℕ → Bool
all_right table = leb (length table) 512 && quotients 1 table

at : (xs : List ℕ) (d i : ℕ) → T (quotients d xs) → i < length xs → get_or xs i 0 ≡ quotient (d + i)
at [] d i t h = absurd (omega (arith, h))
at (x ∷ xs) d zero t h = eqb→eq x (quotient d) (and_l (eqb x (quotient d)) (quotients (suc d) xs) t) ∙ ap quotient (omega arith)
at (x ∷ xs) d (suc i) t h =
    at xs (suc d) i (and_r (eqb x (quotient d)) (quotients (suc d) xs) t) (omega (arith, h)) ∙ ap quotient (omega arith)

pub whole_table : (table : List ℕ) → all_right table ≡ true → Reciprocals table
whole_table table e =
    let t : T (all_right table) = subst T (sym e) tt in
    record {
      size = leb→le (length table) 512 (and_l (leb (length table) 512) (quotients 1 table) t);
      rule = λ d p h.
          at table 1 (d - 1) (and_r (leb (length table) 512) (quotients 1 table) t) (omega arith) ∙ ap quotient (omega arith);
    }

quotient_small : (d : ℕ) → 0 < d → d ≤ 512 → quotient d ≡ reciprocal d
unfolding reciprocal
quotient_small d p h =
    rw (ne_eqb d 0 (λ e. omega (arith, e)), signed_low d (omega arith))
    (omega (arith, mod32-pos (quotient d), div-le_self 2147483647 d))

pub entry-reciprocal : {table : List ℕ} → Reciprocals table → (d : ℕ) → 0 < d → d ≤ length table → entry table d ≡ reciprocal d
entry-reciprocal r d p h = r.rule d p h ∙ quotient_small d p (omega (arith, h, r.size))

pub table_unique : {a b : List ℕ} → Reciprocals a → Reciprocals b → length a ≡ length b → a ≡ b
table_unique {a} {b} ra rb e = ext_get_or 0 a b e same
  where
    same : (i : ℕ) → i < length a → get_or a i 0 ≡ get_or b i 0
    same i h =
        let k : suc i - 1 ≡ i = omega arith in
        rw k at (ra.rule (suc i) (omega arith) h ∙ sym (rb.rule (suc i) (omega arith) (omega (arith, h, e))))
