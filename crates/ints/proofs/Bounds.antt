-- Bounds: `Within n z` says that z lies from -n to n. Bounds add under sum and difference and multiply under product, so the bound of an
-- expression is computed beside it; below 2^31 or 2^63 it gives the machine's range.
use mathlib.Core.Path.{◌≡◌, refl}
use mathlib.Core.List.{List, [], ◌∷◌}
use Prim.Native.Nat.{ℕ, zero, suc, ◌+◌, ◌*◌, ◌/◌, ◌^◌, ◌≤◌, ◌<◌, suc-le-suc}
use native.Mathlib.Nat.{le_trans, mul-le-mul, div-le_self}
use native.Mathlib.Omega.{arith}
use lib.Dec.{T, leb, leb→le}
use lib.IntN.{ℤ, pos, negsuc, neg_ℤ, nat_abs, ◌+ℤ◌, ◌-ℤ◌, ◌*ℤ◌}
use lib.Signed.{mag, quot_z, shr_z, ◌≤ℤ◌, nat_abs-le}
use mir.Syntax.{Width, w32, w64}
use mir.Val.{SFits, hbits}
use borrow.Author.Rules.{sfits_of}
use Rattle.ints.proofs.Poly.{var, neg, ◌⊕◌}
use Rattle.ints.proofs.Order.{up, dn, le_to, le_of, ≤ℤ-trans, +ℤ-mono}

pub record Within (n : ℕ) (z : ℤ) : Type 0 where
  pub within : nat_abs z ≤ n

pub within_self : (z : ℤ) → Within (nat_abs z) z
within_self z = record { within = omega arith }

pub within_pos : {k n : ℕ} → k ≤ n → Within n (pos k)
within_pos h = record { within = h }

pub within_le : {n m : ℕ} {z : ℤ} → n ≤ m → Within n z → Within m z
within_le {z = z} h k = record { within = omega (arith, k.within) }

abs_sum : (z : ℤ) → nat_abs z ≡ up z + dn z
abs_sum (pos n) = omega arith
abs_sum (negsuc n) = omega arith

pub within_hi : {n : ℕ} {z : ℤ} → Within n z → z ≤ℤ pos n
within_hi {n} {z} h = le_of (z ∷ pos n ∷ []) (var 0) (var 1) (omega (arith, abs_sum z, h.within))

pub within_lo : {n : ℕ} {z : ℤ} → Within n z → neg_ℤ (pos n) ≤ℤ z
within_lo {n} {z} h = le_of (z ∷ pos n ∷ []) (neg (var 1)) (var 0) (omega (arith, abs_sum z, h.within))

within_of : {n : ℕ} (z : ℤ) → neg_ℤ (pos n) ≤ℤ z → z ≤ℤ pos n → Within n z
within_of {n} (pos k) l h = record { within = omega (arith, le_to (pos k ∷ pos n ∷ []) (var 0) (var 1) h) }
within_of {n} (negsuc k) l h = record { within = omega (arith, le_to (negsuc k ∷ pos n ∷ []) (neg (var 1)) (var 0) l) }

-- from a range: `within_range (within_lit tt) (within_lit tt) low high`
pub within_range : {n : ℕ} {a b z : ℤ} → Within n a → Within n b → a ≤ℤ z → z ≤ℤ b → Within n z
within_range {n} {a} {b} {z} ha hb l h = within_of z (≤ℤ-trans (within_lo ha) l) (≤ℤ-trans h (within_hi hb))

pub within_lit : {n : ℕ} {z : ℤ} → T (leb (nat_abs z) n) → Within n z
within_lit {n} {z} t = record { within = leb→le (nat_abs z) n t }

pub abs_neg : (z : ℤ) → nat_abs (neg_ℤ z) ≡ nat_abs z
abs_neg (pos zero) = refl
abs_neg (pos (suc n)) = refl
abs_neg (negsuc n) = refl

pub abs_mul : (z y : ℤ) → nat_abs (z *ℤ y) ≡ nat_abs z * nat_abs y
abs_mul (pos a) (pos b) = refl
abs_mul (pos a) (negsuc b) = abs_neg (pos (a * suc b))
abs_mul (negsuc a) (pos b) = abs_neg (pos (suc a * b))
abs_mul (negsuc a) (negsuc b) = refl

pub within_neg : {n : ℕ} {z : ℤ} → Within n z → Within n (neg_ℤ z)
within_neg {z = z} h = record { within = rw (abs_neg z) h.within }

module _ {n m : ℕ} {z y : ℤ} (h : Within n z) (k : Within m y) where
  pub within_add : Within (n + m) (z +ℤ y)
  within_add =
      let ρ : List ℤ = z ∷ y ∷ pos n ∷ pos m ∷ [] in
      within_of (z +ℤ y)
      (le_of ρ (neg (var 2 ⊕ var 3)) (var 0 ⊕ var 1)
      (omega (arith, le_to ρ (neg (var 2)) (var 0) (within_lo h), le_to ρ (neg (var 3)) (var 1) (within_lo k))))
      (+ℤ-mono (within_hi h) (within_hi k))

  pub within_mul : Within (n * m) (z *ℤ y)
  within_mul = record { within = rw (abs_mul z y) (mul-le-mul h.within k.within) }

pub within_sub : {n m : ℕ} {z y : ℤ} → Within n z → Within m y → Within (n + m) (z -ℤ y)
within_sub h k = within_add h (within_neg k)

-- a quotient and a shift are no larger
abs_quot : (z y : ℤ) → nat_abs (quot_z z y) ≡ nat_abs z / nat_abs y
abs_quot (pos a) (pos b) = refl
abs_quot (pos a) (negsuc b) = abs_neg (pos (a / suc b))
abs_quot (negsuc a) (pos b) = abs_neg (pos (suc a / b))
abs_quot (negsuc a) (negsuc b) = refl

pub within_quot : {n : ℕ} {z : ℤ} (y : ℤ) → Within n z → Within n (quot_z z y)
within_quot {z = z} y h = record { within = rw (abs_quot z y) (le_trans (div-le_self (nat_abs z) (nat_abs y)) h.within) }

abs_shr : (z : ℤ) (k : ℕ) → nat_abs (shr_z z k) ≤ nat_abs z
abs_shr (pos a) k = div-le_self a k
abs_shr (negsuc a) k = suc-le-suc (div-le_self a k)

pub within_shr : {n : ℕ} {z : ℤ} (k : ℕ) → Within n z → Within n (shr_z z k)
within_shr {z = z} k h = record { within = le_trans (abs_shr z k) h.within }

-- the machine's ranges
mag_abs : (z : ℤ) → mag z ≤ nat_abs z
mag_abs (pos n) = omega arith
mag_abs (negsuc n) = omega arith

pub within_mag : {n m : ℕ} {z : ℤ} → Within n z → n < m → mag z < m
within_mag {z = z} h l = omega (arith, mag_abs z, h.within)

pub within_31 : {n : ℕ} {z : ℤ} → Within n z → n < 2147483648 → mag z < 2147483648
within_31 h l = within_mag h l

pub within_63 : {n : ℕ} {z : ℤ} → Within n z → n < 9223372036854775808 → mag z < 9223372036854775808
within_63 h l = within_mag h l

pub fits_32 : {n : ℕ} {z : ℤ} → Within n z → n < 2147483648 → SFits w32 z
fits_32 h l = sfits_of (within_31 h l)

pub fits_64 : {n : ℕ} {z : ℤ} → Within n z → n < 9223372036854775808 → SFits w64 z
fits_64 h l = sfits_of (within_63 h l)

-- what the machine holds lies in its range
pub within_fits : {w : Width} {z : ℤ} → SFits w z → Within (2 ^ hbits w) z
within_fits {z = z} f = record { within = nat_abs-le z f.sfits }
