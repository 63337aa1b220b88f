-- What the signed operations mean, said by products and order alone, since `to_z`, `shr_z` and `quot_z` are the prover's own: a word from
-- 2^31 on is read as itself less 2^32, MULF rounds down, and RECP rounds toward zero. The shifts are in Shifts.antt.
use Prim.Native.Nat.{ℕ, zero, suc, ◌+◌, ◌-◌, ◌*◌, ◌/◌, ◌≤◌, ◌<◌}
use mathlib.Core.Path.{◌≡◌, refl, sym, ap}
use mathlib.Core.Logic.{◌≢◌}
use mathlib.Core.Bool.{Bool, true, false}
use native.Mathlib.Nat.{mul-div-le, lt-mul-div-succ}
use native.Mathlib.Omega.{arith}
use lib.IntN.{ℤ, pos, negsuc, neg_ℤ, nat_abs, pos-ne-negsuc, ◌+ℤ◌, ◌*ℤ◌}
use lib.Signed.{shr_z, quot_z}
use lib.Dec.{ltb}
use borrow.Author.Tests.{lt-ltb, le-ltb, ne_eqb}
use Rattle.ints.specs.Modulo.{mod32}
use Rattle.ints.specs.Rounding.{RoundsDown}
use Rattle.ints.proofs.Rounding.{shr_z_rounds_down}
use Rattle.instructions.specs.Words.{signed}
use Rattle.instructions.specs.Arithmetic.{rounded_product, reciprocal}

pub mulf_rounds_down : (a b : ℕ) → (q : ℤ) × (rounded_product a b ≡ mod32 q) × RoundsDown (signed a *ℤ signed b) (pos 65536) q
unfolding rounded_product
mulf_rounds_down a b = (shr_z (signed a *ℤ signed b) 65536, refl, shr_z_rounds_down (signed a *ℤ signed b) 65536 (omega arith))

-- q is n divided by d, rounded toward zero: its size is that of the sizes' quotient, and it has d's sign
pub record TowardZero (n : ℕ) (d q : ℤ) : Type 0 where
  pub at_most : nat_abs d * nat_abs q ≤ n
  pub no_more : n < nat_abs d * (nat_abs q + 1)
  pub up : (k : ℕ) → d ≡ pos k → q ≡ pos (nat_abs q)
  pub down : (k : ℕ) → d ≡ negsuc k → q ≡ neg_ℤ (pos (nat_abs q))

abs_neg : (n : ℕ) → nat_abs (neg_ℤ (pos n)) ≡ n
abs_neg zero = refl
abs_neg (suc n) = refl

toward_zero : (n : ℕ) (d : ℤ) → 0 < nat_abs d → TowardZero n d (quot_z (pos n) d)
toward_zero n (pos d) h = record {
  at_most = mul-div-le n d;
  no_more = lt-mul-div-succ n h;
  up = λ k e. refl;
  down = λ k e. absurd (pos-ne-negsuc d k e);
}
toward_zero n (negsuc d) h = record {
  at_most = rw (abs_neg (n / suc d)) (mul-div-le n (suc d));
  no_more = rw (abs_neg (n / suc d)) (lt-mul-div-succ n h);
  up = λ k e. absurd (pos-ne-negsuc k d (sym e));
  down = λ k e. ap (λ m. neg_ℤ (pos m)) (sym (abs_neg (n / suc d)));
}

-- a word as signed
pub signed_low : (a : ℕ) → a < 2147483648 → signed a ≡ pos a
signed_low a h = rw (lt-ltb a 2147483648 h)

pub signed_high : (a : ℕ) → 2147483648 ≤ a → a < 4294967296 → signed a +ℤ pos 4294967296 ≡ pos a
signed_high a h l = rw (le-ltb a 2147483648 h) (back a (omega arith) l)
  where
    back : (a : ℕ) → 0 < a → a < 4294967296 → negsuc (4294967296 - suc a) +ℤ pos 4294967296 ≡ pos a
    back a p l = rw (le-ltb 4294967296 (suc (4294967296 - suc a)) (omega arith)) (ap pos (omega arith))

sized : (a : ℕ) → a ≢ 0 → 0 < nat_abs (signed a)
sized a n = go (ltb a 2147483648) refl
  where
    go : (b : Bool) → ltb a 2147483648 ≡ b → 0 < nat_abs (signed a)
    go true e = rw e (omega (arith, n))
    go false e = rw e (omega arith)

pub recp_toward_zero : (a : ℕ) → a ≢ 0 → a < 4294967296 → (q : ℤ) × (reciprocal a ≡ mod32 q) × TowardZero 2147483647 (signed a) q
unfolding reciprocal
recp_toward_zero a n l = (quot_z (pos 2147483647) (signed a), rw (ne_eqb a 0 n), toward_zero 2147483647 (signed a) (sized a n))
