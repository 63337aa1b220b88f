-- M-103, of the definitions of LSL, LSR and ASR: below 32 they give what 01's five bits gave; what is left from 32 on; what they give by
-- products and powers alone, for every amount, and that no other words do; two shifts in turn are one, by the sum. From 32 on 2^k is a
-- multiple of 2^32, so LSL keeps nothing; a word is below 2^32, as signed it is n or -(n + 1) with n below 2^31, and n divided by 2^32 or
-- more is 0.
use Prim.Native.Nat.{ℕ, suc, ◌+◌, ◌-◌, ◌*◌, ◌/◌, ◌%◌, ◌^◌, ◌≤◌, ◌<◌}
use mathlib.Core.Path.{◌≡◌, refl, sym, ap, ◌∙◌}
use mathlib.Core.Bool.{Bool, true, false}
use native.Mathlib.Nat.{mod-eq_of_lt, mod-lt, div-eq_of_lt, lt_of_lt_of_le, lt_of_le_of_lt, mul_assoc, mul-mod_left}
use native.Mathlib.Omega.{arith}
use lib.Dec.{ltb}
use lib.IntN.{ℤ, pos, negsuc}
use lib.Pow.{pow_pos, pow_mono, pow-add, split, shr-shr}
use lib.Arith.{digits_mod}
use lib.Signed.{mag, mag_shr, shr_z, ◌<ℤ◌}
use mir.Syntax.{w32}
use mir.Val.{of_z, to_z}
use mir.ValLaws.{of_z-to_z, to_z-of_z, to_z-Fits}
use borrow.Author.Tests.{ltb-true, ltb-false, le-leb, lt-leb}
use Rattle.ints.specs.Modulo.{mod32}
use Rattle.ints.specs.Rounding.{RoundsDown}
use Rattle.ints.proofs.Rounding.{shr_z_rounds_down, rounds_to_one}
use Rattle.ints.proofs.Laws.{pos_inj}
use Rattle.ints.proofs.Modulo.{mod32-pos, mod32-mul}
use Rattle.ints.proofs.Order.{is_pos, is_lt}
use Rattle.rules.specs.Folds.{choose}
use Rattle.instructions.specs.Words.{keep32, signed}
use Rattle.instructions.specs.Arithmetic.{shifted_left, shifted_right, shifted_signed, negative_flag}
use Rattle.instructions.proofs.Picks.{pick}

-- "Below 32 nothing changes", where 01 said: "Shift amounts are the low five bits of r3 or imm (house)."
pub below_32 : (a k : ℕ) → k < 32
    → (shifted_left a k ≡ keep32 (a * 2 ^ (k % 32))) × (shifted_right a k ≡ a / 2 ^ (k % 32))
    × (shifted_signed a k ≡ mod32 (shr_z (signed a) (2 ^ (k % 32))))
unfolding shifted_left shifted_right shifted_signed
below_32 a k h = rw (mod-eq_of_lt h) (refl, refl, refl)

-- a word as signed is n or -(n + 1), n below 2^31, as its sign says
by_sign : (P : ℤ → Bool → Type 0) (a : ℕ) → a < 4294967296
    → ((n : ℕ) → n < 2147483648 → P (pos n) false)
    → ((n : ℕ) → n < 2147483648 → P (negsuc n) true)
    → P (signed a) (negative_flag a)
by_sign P a l up down = go (ltb a 2147483648) refl
  where
    go : (b : Bool) → ltb a 2147483648 ≡ b → P (signed a) (negative_flag a)
    go true e =
        let h : a < 2147483648 = ltb-true a 2147483648 e in
        rw (e, lt-leb 2147483648 a h) (up a h)
    go false e =
        let h : 2147483648 ≤ a = ltb-false a 2147483648 e in
        rw (e, le-leb 2147483648 a h) (down (4294967296 - suc a) (omega arith))

nothing_left : (n k : ℕ) → n < 4294967296 → 32 ≤ k → n / 2 ^ k ≡ 0
nothing_left n k l h = div-eq_of_lt (lt_of_lt_of_le l (pow_mono h))

-- "From 32 on, LSL and LSR give 0, and ASR gives 0 or -1 by the sign."
pub lsl_from_32 : (a k : ℕ) → 32 ≤ k → shifted_left a k ≡ 0
unfolding shifted_left
lsl_from_32 a k h =
    let e : k ≡ (k - 32) + 32 = omega arith in
    ap (λ (i : ℕ). keep32 (a * 2 ^ i)) e ∙ ap (λ (p : ℕ). keep32 (a * p)) (pow-add 2 (k - 32) 32)
    ∙ ap keep32 (sym (mul_assoc a (2 ^ (k - 32)) 4294967296)) ∙ mul-mod_left (a * 2 ^ (k - 32)) 4294967296

pub lsr_from_32 : (a k : ℕ) → a < 4294967296 → 32 ≤ k → shifted_right a k ≡ 0
unfolding shifted_right
lsr_from_32 a k l h = nothing_left a k l h

pub asr_from_32 : (a k : ℕ) → a < 4294967296 → 32 ≤ k → shifted_signed a k ≡ choose (negative_flag a) 4294967295 0
unfolding shifted_signed mod32
asr_from_32 a k l h =
    by_sign (λ z b. mod32 (shr_z z (2 ^ k)) ≡ choose b 4294967295 0) a l
    (λ n s. rw (nothing_left n k (omega (arith, s)) h))
    (λ n s. rw (nothing_left n k (omega (arith, s)) h))

pub asr_of_negative : (a k : ℕ) → 2147483648 ≤ a → a < 4294967296 → 32 ≤ k → signed (shifted_signed a k) ≡ negsuc 0
asr_of_negative a k s l h = rw (asr_from_32 a k l h, le-leb 2147483648 a s)

pub asr_of_minus_one : (k : ℕ) → 32 ≤ k → shifted_signed 4294967295 k ≡ 4294967295
asr_of_minus_one k h = asr_from_32 4294967295 k (omega arith) h

pub asr_of_the_least : (k : ℕ) → 32 ≤ k → shifted_signed 2147483648 k ≡ 4294967295
asr_of_the_least k h = asr_from_32 2147483648 k (omega arith) h

-- in 02's words, with its case at 32
module _ (a k : ℕ) (l : a < 4294967296) where
  cases : (shifted below left : ℕ) → (k < 32 → shifted ≡ below) → (32 ≤ k → shifted ≡ left) → shifted ≡ choose (ltb k 32) below left
  cases shifted below left p q =
      pick (λ v. shifted ≡ v) (ltb k 32) (λ e. p (ltb-true k 32 e)) (λ e. q (ltb-false k 32 e))

  pub lsl_cases : shifted_left a k ≡ choose (ltb k 32) (keep32 (a * 2 ^ (k % 32))) 0
  lsl_cases = cases _ _ _ (λ h. (below_32 a k h).0) (lsl_from_32 a k)

  pub lsr_cases : shifted_right a k ≡ choose (ltb k 32) (a / 2 ^ (k % 32)) 0
  lsr_cases = cases _ _ _ (λ h. (below_32 a k h).1) (lsr_from_32 a k l)

  pub asr_cases : shifted_signed a k ≡ choose (ltb k 32) (mod32 (shr_z (signed a) (2 ^ (k % 32)))) (choose (negative_flag a) 4294967295 0)
  asr_cases = cases _ _ _ (λ h. (below_32 a k h).2) (asr_from_32 a k l)

-- What LSL, LSR and ASR give of a by k, by products and powers alone: l is a · 2^k modulo 2^32; r is a divided by 2^k, rounded down; s,
-- read as signed, is a read as signed divided by 2^k, rounded down.
pub record ByPowers (a k l r s : ℕ) : Type 0 where
  pub word : l < 4294967296
  pub lost : ℕ
  pub times : a * 2 ^ k ≡ lost * 4294967296 + l
  pub over : RoundsDown (pos a) (pos (2 ^ k)) (pos r)
  pub signed_over : RoundsDown (signed a) (pos (2 ^ k)) (signed s)

-- a number in range is what its word is read as
word_of : (z : ℤ) → mag z < 2147483648 → mod32 z ≡ of_z w32 z
unfolding mod32
word_of (pos n) h = omega (arith, h)
word_of (negsuc n) h = omega (arith, h)

-- a quotient of the signed reading is in range, so ASR wraps nothing
signed_quotient : (a k : ℕ) → a < 4294967296 → signed (shifted_signed a k) ≡ shr_z (signed a) (2 ^ k)
unfolding shifted_signed
signed_quotient a k l =
    let q = shr_z (signed a) (2 ^ k) in
    let h : mag q < 2147483648 = lt_of_le_of_lt (mag_shr (signed a) (2 ^ k)) (to_z-Fits w32 a (record { fits = l })).sfits in
    ap (to_z w32) (word_of q h) ∙ to_z-of_z w32 q (record { sfits = h })

-- for every amount: from 32 on this is what is left anyway
pub by_powers : (a k : ℕ) → a < 4294967296 → ByPowers a k (shifted_left a k) (shifted_right a k) (shifted_signed a k)
unfolding shifted_left shifted_right
by_powers a k l = record {
  word = mod-lt (a * 2 ^ k) (omega arith);
  lost = a * 2 ^ k / 4294967296;
  times = sym (split (a * 2 ^ k) 32);
  over = shr_z_rounds_down (pos a) (2 ^ k) (pow_pos k);
  signed_over = rw (signed_quotient a k l) (shr_z_rounds_down (signed a) (2 ^ k) (pow_pos k));
}

-- and no other three words do
pub by_powers_unique : {a k l r s l' r' s' : ℕ} → s < 4294967296 → s' < 4294967296 → ByPowers a k l r s → ByPowers a k l' r' s'
    → (l ≡ l') × (r ≡ r') × (s ≡ s')
by_powers_unique {a} {k} {l} {r} {s} {l'} {r'} {s'} f f' g g' =
    let h : pos 0 <ℤ pos (2 ^ k) = is_lt (is_pos 0) (is_pos (2 ^ k)) (omega (arith, pow_pos k)) in (
      sym (digits_mod g.lost g.word) ∙ ap keep32 (sym g.times ∙ g'.times) ∙ digits_mod g'.lost g'.word,
      pos_inj (rounds_to_one h g.over g'.over),
      sym (back s f) ∙ ap (of_z w32) (rounds_to_one h g.signed_over g'.signed_over) ∙ back s' f',
    )
  where
    back : (n : ℕ) → n < 4294967296 → of_z w32 (signed n) ≡ n
    back n f = of_z-to_z w32 n (record { fits = f })

-- two shifts in turn are one, by the sum of their amounts
pub lsl_add : (a j k : ℕ) → shifted_left (shifted_left a j) k ≡ shifted_left a (j + k)
unfolding shifted_left
lsl_add a j k =
    kept (a * 2 ^ j) (2 ^ k) ∙ ap keep32 (mul_assoc a (2 ^ j) (2 ^ k)) ∙ ap (λ (p : ℕ). keep32 (a * p)) (sym (pow-add 2 j k))
  where
    kept : (n p : ℕ) → keep32 (keep32 n * p) ≡ keep32 (n * p)
    kept n p = ap (λ (m : ℕ). keep32 (m * p)) (sym (mod32-pos n)) ∙ sym (mod32-mul (pos n) p) ∙ mod32-pos (n * p)

pub lsr_add : (a j k : ℕ) → shifted_right (shifted_right a j) k ≡ shifted_right a (j + k)
unfolding shifted_right
lsr_add a j k = shr-shr a j k

pub asr_add : (a j k : ℕ) → a < 4294967296 → shifted_signed (shifted_signed a j) k ≡ shifted_signed a (j + k)
unfolding shifted_signed
asr_add a j k l = ap (λ (z : ℤ). mod32 (shr_z z (2 ^ k))) (signed_quotient a j l) ∙ ap mod32 (both (signed a))
  where
    both : (z : ℤ) → shr_z (shr_z z (2 ^ j)) (2 ^ k) ≡ shr_z z (2 ^ (j + k))
    both (pos n) = ap pos (shr-shr n j k)
    both (negsuc n) = ap negsuc (shr-shr n j k)
