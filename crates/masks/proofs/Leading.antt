-- How many leaves in front a mask names: as many as the leading ones of its word. The leaves that it does not name are the ones of its
-- complement, and the highest of those stands at the first of them.
use Prim.Native.Nat.{ℕ, zero, suc, ◌+◌, ◌*◌, ◌-◌, ◌%◌, ◌^◌, ◌≤◌, ◌<◌}
use mathlib.Core.Path.{◌≡◌, refl, sym, ◌∙◌, ap, ap₂, subst}
use mathlib.Core.Bool.{Bool, true, false, ◌&&◌, not}
use native.Mathlib.Nat.{pow-suc, add-zero, add-mul, suc-mul, zero-mul, mul_assoc}
use native.Mathlib.Omega.{arith}
use mir.Syntax.{w64}
use lib.Arith.{digits_mod}
use lib.Count.{count_leading_zeros}
use lib.Dec.{ltb}
use lib.Pow.{pow-add, shl_lt}
use borrow.Author.Tests.{ltb-true, ltb-false, lt-ltb, le-ltb}
use Rattle.std.specs.Int.{leading_ones, bit_not}
use Rattle.std.proofs.lemmas.Nat.{leading_length}
use Rattle.rules.specs.Folds.{bit}
use Rattle.rules.proofs.Strips.{and_r}
use Rattle.masks.specs.Mask.{mask_of}
use Rattle.masks.proofs.Mask.{mask_lt, mask_cat, mask_same}

-- the leaves that a mask does not name are the ones of its complement
module _ (f : ℕ → Bool) where
  one_of : (b : Bool) → bit b + bit (not b) ≡ 1
  one_of true = refl
  one_of false = refl

  complement : (n : ℕ) → mask_of f n + mask_of (λ k. not (f k)) n + 1 ≡ 2 ^ n
  unfolding mask_of
  complement zero = refl
  complement (suc n) = omega (arith, complement n, one_of (f n), pow-suc 2 n)

  -- a mask that names no leaf is 0
  empty : (n : ℕ) → ((k : ℕ) → k < n → f k ≡ false) → mask_of f n ≡ 0
  unfolding mask_of
  empty zero h = refl
  empty (suc n) h = omega (arith, empty n (λ k l. h k (omega arith)), ap bit (h n (omega arith)))

  unset : (b : Bool) → bit b ≡ 0 → b ≡ false
  unset true h = absurd (omega (arith, h))
  unset false h = refl

  none_named : (n : ℕ) → mask_of f n ≡ 0 → (k : ℕ) → k < n → f k ≡ false
  unfolding mask_of
  none_named zero h k l = absurd (omega (arith, l))
  none_named (suc n) h k l = go (λ i. none_named n (omega (arith, h)) k i) (ltb k n) refl
    where
      go : (k < n → f k ≡ false) → (b : Bool) → ltb k n ≡ b → f k ≡ false
      go before true e = before (ltb-true k n e)
      go before false e =
          let i : n ≡ k = omega (arith, ltb-false k n e) in
          subst (λ (j : ℕ). f j ≡ false) i (unset (f n) (omega (arith, h)))

  set : (b : Bool) → 0 < bit b → b ≡ true
  set true h = refl
  set false h = absurd (omega (arith, h))

  -- a mask of z + m leaves that is below 2^m names none of the first z
  front_empty : (z m : ℕ) → mask_of f (z + m) < 2 ^ m → mask_of f z ≡ 0
  front_empty z m h = go (mask_of f z) refl
    where
      go : (n : ℕ) → mask_of f z ≡ n → mask_of f z ≡ 0
      go zero e = e
      go (suc n) e =
          let i : mask_of f z * 2 ^ m ≡ n * 2 ^ m + 2 ^ m = ap (λ (j : ℕ). j * 2 ^ m) e ∙ suc-mul n (2 ^ m) in
          absurd (omega (arith, h, mask_cat f z m, i))

  -- one that is 2^m or more, of z + 1 + m leaves of which the first z are not named, names the next
  next_named : (z m : ℕ) → mask_of f z ≡ 0 → 2 ^ m ≤ mask_of f (suc z + m) → f z ≡ true
  unfolding mask_of
  next_named z m e h = set (f z) (go (bit (f z)) refl)
    where
      go : (n : ℕ) → bit (f z) ≡ n → 0 < bit (f z)
      go zero i =
          let j : mask_of f (suc z) ≡ 0 = omega (arith, e, i) in
          let k : mask_of f (suc z) * 2 ^ m ≡ 0 = ap (λ (j : ℕ). j * 2 ^ m) j ∙ zero-mul (2 ^ m) in
          absurd (omega (arith, h, mask_cat f (suc z) m, k, mask_lt (λ k. f (suc z + k)) m))
      go (suc n) i = omega (arith, i)

-- z columns of n are in front of the first that f does not have
pub record Leads (f : ℕ → Bool) (n z : ℕ) : Type 0 where
  pub within : z ≤ n
  pub has : (k : ℕ) → k < z → f k ≡ true
  pub stops : z < n → f z ≡ false

module _ (f : ℕ → Bool) where
  abbrev g : ℕ → Bool
  g k = not (f k)

  kept : (b : Bool) → not b ≡ false → b ≡ true
  kept true e = refl
  kept false e = sym e

  left_out : (b : Bool) → not b ≡ true → b ≡ false
  left_out true e = sym e
  left_out false e = refl

  -- as many as the leading ones of its mask
  leads : {n z : ℕ} → n ≡ mask_of f 64 → z ≡ leading_ones w64 n → Leads f 64 z
  leads {n} {z} e i =
      let c : bit_not w64 n ≡ mask_of g 64 = omega (arith, e, complement f 64) in
      let top = leading_length 64 (mask_of g 64) (mask_lt g 64) in
      let j : z + top.0 ≡ 64 = omega (arith, i, ap (count_leading_zeros 64) c, top.1) in
      let front : mask_of g z ≡ 0 =
      front_empty g z top.0 (subst (λ (k : ℕ). mask_of g k < 2 ^ top.0) (sym j) top.2) in
      record {
        within = omega (arith, j);
        has = λ k l. kept (f k) (none_named g z front k l);
        stops = λ l.
            let m : ℕ = 63 - z in
            let a : top.0 ≡ suc m = omega (arith, j) in
            let b : 2 ^ m ≤ mask_of g 64 = omega (arith, top.3, ap (λ (k : ℕ). 2 ^ k) a, pow-suc 2 m) in
            let d : 64 ≡ suc z + m = omega arith in
            left_out (f z) (next_named g z m front (subst (λ (k : ℕ). 2 ^ m ≤ mask_of g k) d b));
      }

-- the same of the columns from a on, where the a bits above them are shifted out
module _ (f : ℕ → Bool) (a : ℕ) (h : a < 64) where
  abbrev after : ℕ → Bool
  after k = ltb k (64 - a) && f (a + k)

  after_of : (k : ℕ) → k < 64 - a → after k ≡ f (a + k)
  after_of k l = ap (λ (b : Bool). b && f (a + k)) (lt-ltb k (64 - a) l)

  after-none : (k : ℕ) → 64 - a ≤ k → after k ≡ false
  after-none k l = ap (λ (b : Bool). b && f (a + k)) (le-ltb k (64 - a) l)

  shifted : mask_of f 64 * 2 ^ a % 2 ^ 64 ≡ mask_of after 64
  shifted =
      let r = 64 - a in
      let p : a + r ≡ 64 = omega arith in
      let q : r + a ≡ 64 = omega arith in
      let x = mask_of (λ k. f (a + k)) r in
      let w : 2 ^ r * 2 ^ a ≡ 2 ^ 64 = sym (pow-add 2 r a) ∙ ap (λ (k : ℕ). 2 ^ k) q in
      let l : x * 2 ^ a < 2 ^ 64 = subst (λ (k : ℕ). x * 2 ^ a < 2 ^ k) q (shl_lt r a (mask_lt (λ k. f (a + k)) r)) in
      let kept : mask_of after r ≡ x = mask_same after (λ k. f (a + k)) r after_of in
      let none : mask_of (λ k. after (r + k)) a ≡ 0 = empty (λ k. after (r + k)) a (λ k i. after-none (r + k) (omega arith)) in
      ap (λ (n : ℕ). mask_of f n * 2 ^ a % 2 ^ 64) (sym p)
      ∙ ap (λ (n : ℕ). n * 2 ^ a % 2 ^ 64) (mask_cat f a r)
      ∙ ap (λ (n : ℕ). n % 2 ^ 64) (add-mul (mask_of f a * 2 ^ r) x (2 ^ a)
      ∙ ap (λ (n : ℕ). n + x * 2 ^ a) (mul_assoc (mask_of f a) (2 ^ r) (2 ^ a) ∙ ap (λ (k : ℕ). mask_of f a * k) w))
      ∙ digits_mod (mask_of f a) l
      ∙ sym (ap (mask_of after) (sym q) ∙ mask_cat after r a ∙ ap₂ (λ (m n : ℕ). m * 2 ^ a + n) kept none ∙ add-zero (x * 2 ^ a))

  pub leads_after : {on z : ℕ} → on ≡ mask_of f 64 * 2 ^ a % 2 ^ 64 → z ≡ leading_ones w64 on → Leads (λ k. f (a + k)) (64 - a) z
  leads_after {on} {z} e i = go (leads after (e ∙ shifted) i)
    where
      within : Leads after 64 z → (b : Bool) → ltb (64 - a) z ≡ b → z ≤ 64 - a
      within l true j =
          let e : true ≡ false = sym (l.has (64 - a) (ltb-true (64 - a) z j)) ∙ after-none (64 - a) (omega arith) in
          absurd (omega (arith, ap bit e))
      within l false j = ltb-false (64 - a) z j

      go : Leads after 64 z → Leads (λ k. f (a + k)) (64 - a) z
      go l =
          record {
            within = within l (ltb (64 - a) z) refl;
            has = λ k j. and_r (ltb k (64 - a)) (f (a + k)) (l.has k j);
            stops = λ j. sym (after_of z j) ∙ l.stops (omega arith);
          }

pub leads_same : {f g : ℕ → Bool} {n z : ℕ} → ((k : ℕ) → f k ≡ g k) → Leads f n z → Leads g n z
leads_same {z = z} e l =
    record { within = l.within; has = λ k h. sym (e k) ∙ l.has k h; stops = λ h. sym (e z) ∙ l.stops h }
