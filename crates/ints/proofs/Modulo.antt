-- The laws of mod32: it takes sums and products to sums and products of naturals modulo 2^32, and it is the low half of a machine word.
-- By cases on the signs, and omega.
use mathlib.Core.Path.{◌≡◌, refl, ap, ◌∙◌}
use mathlib.Core.Bool.{Bool, true, false, cond}
use Prim.Native.Nat.{ℕ, zero, suc, ◌+◌, ◌*◌, ◌-◌, ◌%◌, ◌<◌}
use native.Mathlib.Nat.{mul-suc, mul-zero, add-mod-mod, mod-add-mod}
use native.Mathlib.Omega.{arith}
use lib.Bits
use lib.Dec.{ltb}
use lib.IntN.{ℤ, pos, negsuc, sub_ℕ, neg_ℤ, ◌+ℤ◌, ◌-ℤ◌, ◌*ℤ◌, *ℤ-zero}
use lib.Signed.{mag}
use borrow.Author.Tests.{ltb-true, ltb-false}
use mir.Syntax.{w32, w64}
use mir.Val.{of_z}
use Rattle.ints.specs.Modulo.{mod32}
use Rattle.ints.proofs.Laws.{*ℤ-suc}

pub mod32-pos : (n : ℕ) → mod32 (pos n) ≡ n % 4294967296
unfolding mod32
mod32-pos n = refl

pub mod32-lt : (z : ℤ) → mod32 z < 4294967296
unfolding mod32
mod32-lt (pos n) = omega arith
mod32-lt (negsuc n) = omega arith

-- a difference of naturals
mod32-subℕ : (a b : ℕ) → mod32 (sub_ℕ a (suc b)) ≡ (a % 4294967296 + (4294967295 - b % 4294967296)) % 4294967296
unfolding mod32
mod32-subℕ a b = go (ltb a (suc b)) refl
  where
    go : (t : Bool) → ltb a (suc b) ≡ t
        → mod32 (cond t (negsuc (suc b - suc a)) (pos (a - suc b))) ≡ (a % 4294967296 + (4294967295 - b % 4294967296)) % 4294967296
    go true e = omega (arith, ltb-true a (suc b) e)
    go false e = omega (arith, ltb-false a (suc b) e)

pub mod32-add : (a b : ℤ) → mod32 (a +ℤ b) ≡ (mod32 a + mod32 b) % 4294967296
unfolding mod32
mod32-add (pos a) (pos b) = omega arith
mod32-add (pos a) (negsuc b) = mod32-subℕ a b
mod32-add (negsuc a) (pos b) = mod32-subℕ b a ∙ omega arith
mod32-add (negsuc a) (negsuc b) = omega arith

pub mod32-neg : (z : ℤ) → mod32 (neg_ℤ z) ≡ (4294967296 - mod32 z) % 4294967296
unfolding mod32
mod32-neg (pos zero) = refl
mod32-neg (pos (suc n)) = omega arith
mod32-neg (negsuc n) = omega arith

pub mod32-sub : (a b : ℤ) → mod32 (a -ℤ b) ≡ (mod32 a + (4294967296 - mod32 b)) % 4294967296
mod32-sub a b =
    mod32-add a (neg_ℤ b) ∙ ap (λ (k : ℕ). (mod32 a + k) % 4294967296) (mod32-neg b)
    ∙ add-mod-mod (mod32 a) (4294967296 - mod32 b) 4294967296

pub mod32-mul : (a : ℤ) (n : ℕ) → mod32 (a *ℤ pos n) ≡ (mod32 a * n) % 4294967296
mod32-mul a zero = ap mod32 (*ℤ-zero a) ∙ mod32-pos 0 ∙ simp mul-zero
mod32-mul a (suc n) =
    let e : mod32 (a *ℤ pos (suc n)) ≡ mod32 (a *ℤ pos n +ℤ a) = ap mod32 (*ℤ-suc a n) in
    omega (arith, e, mod32-add (a *ℤ pos n) a, mod32-mul a n, mul-suc (mod32 a) n)

pub mod32_affine : (c a b : ℤ) (x y : ℕ) → mod32 (c +ℤ a *ℤ pos x +ℤ b *ℤ pos y) ≡ (mod32 c + mod32 a * x + mod32 b * y) % 4294967296
mod32_affine c a b x y =
    mod32-add (c +ℤ a *ℤ pos x) (b *ℤ pos y)
    ∙ ap (λ (k : ℕ). (mod32 (c +ℤ a *ℤ pos x) + k) % 4294967296) (mod32-mul b y)
    ∙ add-mod-mod (mod32 (c +ℤ a *ℤ pos x)) (mod32 b * y) 4294967296
    ∙ ap (λ (k : ℕ). (k + mod32 b * y) % 4294967296) first ∙ mod-add-mod (mod32 c + mod32 a * x) 4294967296 (mod32 b * y)
  where
    first : mod32 (c +ℤ a *ℤ pos x) ≡ (mod32 c + mod32 a * x) % 4294967296
    first =
        mod32-add c (a *ℤ pos x) ∙ ap (λ (k : ℕ). (mod32 c + k) % 4294967296) (mod32-mul a x)
        ∙ add-mod-mod (mod32 c) (mod32 a * x) 4294967296

-- the low half of a number of 64 bits
pub mod32-low : (z : ℤ) → mag z < 9223372036854775808 → of_z w64 z % 4294967296 ≡ mod32 z
unfolding mod32
mod32-low (pos n) h = refl
mod32-low (negsuc n) h = omega arith

-- the bits of a number of 32 bits
pub mod32-bits : (z : ℤ) → mag z < 2147483648 → of_z w32 z ≡ mod32 z
unfolding mod32
mod32-bits (pos n) h = omega arith
mod32-bits (negsuc n) h = omega arith

-- the low 32 bits, as code takes them
pub low_mask : (n : ℕ) → Bits.bit_and n 4294967295 ≡ n % 4294967296
low_mask n = Bits.and_mask n 32
