-- Laws of masks: the ones of a mask are the leaves it names, the mask of a span is the difference of two powers of two, the masks of
-- four groups side by side are one mask of 64 columns, and the top bit of such a word is its first column.
use Prim.Native.Nat.{ℕ, zero, suc, ◌+◌, ◌*◌, ◌-◌, ◌/◌, ◌%◌, ◌^◌, ◌≤◌, ◌<◌}
use mathlib.Core.Path.{◌≡◌, refl, sym, ◌∙◌, ap, ap₂, subst}
use mathlib.Core.Bool.{Bool, true, false, ◌&&◌}
use mathlib.Core.List.{List, [], ◌∷◌}
use lib.Bits.{bit_or}
use lib.ListN.{length, get_or}
use Rattle.std.proofs.lemmas.Nat.{or_shifted}
use native.Mathlib.Nat.{pow-suc, add-zero, zero-add, add-suc, add-mul, mul_assoc, mod-eq_of_lt}
use native.Mathlib.Omega.{arith}
use lib.Dec.{ltb, leb}
use lib.Count.{ones, ones_in, ones_cat}
use lib.Arith.{digits_mod}
use lib.Pow.{pow_pos, pow-add, shl_lt, high, ones_lt, ones_split}
use borrow.Author.Tests.{ltb-true, ltb-false, leb-true, leb-false}
use Rattle.rules.specs.Folds.{bit, how_many}
use Rattle.rules.proofs.Choices.{bit_le}
use Rattle.rules.proofs.Folds.{how_many-add}
use Rattle.masks.specs.declared.Masks.{Masks}
use Rattle.masks.specs.Mask.{mask_of, MasksOf, word_of, ones_of}
use Rattle.masks.specs.Span.{in_span}

one : (b : Bool) → ones (bit b) ≡ bit b
unfolding ones ones_in
one true = refl
one false = refl

module _ (f : ℕ → Bool) where
  pub mask_lt : (k : ℕ) → mask_of f k < 2 ^ k
  unfolding mask_of
  mask_lt zero = omega arith
  mask_lt (suc k) =
      let h : mask_of f k < 2 ^ k = mask_lt k in
      let e : 2 ^ suc k ≡ 2 ^ k * 2 = pow-suc 2 k in
      omega (arith, bit_le (f k))

  pub mask_ones : (k : ℕ) → ones (mask_of f k) ≡ how_many f k
  unfolding mask_of how_many
  mask_ones zero = one false
  mask_ones (suc k) =
      ones_cat 1 (mask_of f k) (bit (f k)) (omega (arith, bit_le (f k)))
      ∙ ap (λ (n : ℕ). n + ones (bit (f k))) (mask_ones k)
      ∙ ap (λ (n : ℕ). how_many f k + n) (one (f k))

  -- two masks side by side
  pub mask_cat : (m n : ℕ) → mask_of f (m + n) ≡ mask_of f m * 2 ^ n + mask_of (λ k. f (m + k)) n
  unfolding mask_of
  mask_cat m zero = rw add-zero (omega arith)
  mask_cat m (suc n) =
      let h : mask_of f (m + n) ≡ mask_of f m * 2 ^ n + mask_of (λ k. f (m + k)) n = mask_cat m n in
      let e : mask_of f m * 2 ^ suc n ≡ mask_of f m * 2 ^ n * 2 =
      ap (λ (k : ℕ). mask_of f m * k) (pow-suc 2 n) ∙ sym (mul_assoc (mask_of f m) (2 ^ n) 2) in
      rw add-suc (omega arith)

  pub mask_same : (g : ℕ → Bool) (n : ℕ) → ((k : ℕ) → k < n → f k ≡ g k) → mask_of f n ≡ mask_of g n
  unfolding mask_of
  mask_same g zero e = refl
  mask_same g (suc n) e = rw (mask_same g n (λ k l. e k (omega arith)), e n (omega arith))

-- 2 ^ (n - k) is one more than the mask of the leaves from k on: one leaf more doubles it once k is reached, and before that it is 1
from_on : (n k : ℕ) → k ≤ n → 2 ^ (suc n - k) ≡ 2 ^ (n - k) * 2
from_on n k h =
    let e : suc n - k ≡ suc (n - k) = omega arith in
    ap (λ (i : ℕ). 2 ^ i) e ∙ pow-suc 2 (n - k)

not_yet : (n k : ℕ) → n ≤ k → 2 ^ (n - k) ≡ 1
not_yet n k h =
    let e : n - k ≡ 0 = omega arith in
    ap (λ (i : ℕ). 2 ^ i) e

span_more : (lo hi n m : ℕ) → lo ≤ hi → (a b : Bool) → leb lo n ≡ a → ltb n hi ≡ b → m + 2 ^ (n - hi) ≡ 2 ^ (n - lo)
    → (m * 2 + bit (a && b)) + 2 ^ (suc n - hi) ≡ 2 ^ (suc n - lo)
span_more lo hi n m o true true p q h =
    let l = leb-true lo n p in
    let g = ltb-true n hi q in
    omega (arith, not_yet n hi (omega arith), not_yet (suc n) hi (omega arith), from_on n lo l)
span_more lo hi n m o true false p q h =
    let l = leb-true lo n p in
    let g = ltb-false n hi q in
    omega (arith, from_on n hi g, from_on n lo l)
span_more lo hi n m o false true p q h =
    let l = leb-false lo n p in
    omega (
      arith,
      not_yet n lo (omega arith),
      not_yet (suc n) lo (omega arith),
      not_yet n hi (omega arith),
      not_yet (suc n) hi (omega arith),
    )
span_more lo hi n m o false false p q h = absurd (omega (arith, leb-false lo n p, ltb-false n hi q))

-- the leaves from lo on, less those from hi on
mask_span : (lo hi n : ℕ) → lo ≤ hi → mask_of (in_span lo hi) n + 2 ^ (n - hi) ≡ 2 ^ (n - lo)
unfolding mask_of
mask_span lo hi zero o = omega (arith, not_yet 0 hi (omega arith), not_yet 0 lo (omega arith))
mask_span lo hi (suc n) o = span_more lo hi n (mask_of (in_span lo hi) n) o (leb lo n) (ltb n hi) refl refl (mask_span lo hi n o)

-- 2^64 - 1 shifted past the columns before k: those from k on
pub all_from : (k : ℕ) → k ≤ 64 → (2 ^ 64 - 1) / 2 ^ k ≡ 2 ^ (64 - k) - 1
all_from k h =
    let e : (64 - k) + k ≡ 64 = omega arith in
    let p : 2 ^ 64 - 1 ≡ (2 ^ (64 - k) - 1) * 2 ^ k + (2 ^ k - 1) =
    ap (λ (i : ℕ). 2 ^ i - 1) (sym e) ∙ ones_split (64 - k) k in
    ap (λ (i : ℕ). i / 2 ^ k) p ∙ high (2 ^ (64 - k) - 1) k (ones_lt k)

-- so the mask of the columns from lo up to but not including hi is the difference of two such shifts
pub shifted_span : (lo hi : ℕ) → lo ≤ hi → hi ≤ 64 → mask_of (in_span lo hi) 64 + (2 ^ 64 - 1) / 2 ^ hi ≡ (2 ^ 64 - 1) / 2 ^ lo
shifted_span lo hi o h =
    let p : 0 < 2 ^ (64 - hi) = pow_pos (64 - hi) in
    omega (arith, mask_span lo hi 64 o, all_from lo (omega arith), all_from hi h, p)

-- four numbers of 16 bits side by side, as the machine puts them
pub side_by_side : (a b c d : ℕ) → a < 65536 → b < 65536 → c < 65536 → d < 65536
    → bit_or (bit_or (bit_or (a * 281474976710656 % 2 ^ 64) (b * 4294967296 % 2 ^ 64)) (c * 65536 % 2 ^ 64)) d
    ≡ ((a * 65536 + b) * 65536 + c) * 65536 + d
side_by_side a b c d h i j k =
    let p : a * 281474976710656 % 2 ^ 64 ≡ a * 281474976710656 = mod-eq_of_lt (omega arith) in
    let q : b * 4294967296 % 2 ^ 64 ≡ b * 4294967296 = mod-eq_of_lt (omega arith) in
    let r : c * 65536 % 2 ^ 64 ≡ c * 65536 = mod-eq_of_lt (omega arith) in
    let m : ℕ = a * 65536 + b in
    let n : ℕ = m * 65536 + c in
    let s : bit_or (a * 281474976710656) (b * 4294967296) ≡ m * 4294967296 = or_shifted a 48 (b * 4294967296) (omega arith) ∙ omega arith in
    let t : bit_or (m * 4294967296) (c * 65536) ≡ n * 65536 = or_shifted m 32 (c * 65536) (omega arith) ∙ omega arith in
    ap₂ (λ (x y : ℕ). bit_or (bit_or x y) d) (ap₂ (λ (x y : ℕ). bit_or x y) p q ∙ s) r
    ∙ ap (λ (x : ℕ). bit_or x d) t
    ∙ or_shifted n 16 d k

pub word_of_four : (groups : List ℕ) → length groups ≡ 4
    → word_of groups ≡ ((get_or groups 0 0 * 65536 + get_or groups 1 0) * 65536 + get_or groups 2 0) * 65536 + get_or groups 3 0
word_of_four (a ∷ b ∷ c ∷ d ∷ []) l = omega arith
word_of_four _ l = absurd (omega (arith, l))

-- Four masks side by side are the mask of 64 columns, and their ones are the columns it names.
module _ (f : ℕ → Bool) where
  pub wide_is : ((mask_of f 16 * 65536 + mask_of (λ k. f (16 + k)) 16) * 65536 + mask_of (λ k. f (32 + k)) 16) * 65536
      + mask_of (λ k. f (48 + k)) 16
      ≡ mask_of f 64
  wide_is =
      let p : mask_of f 64 ≡ mask_of f 48 * 65536 + mask_of (λ k. f (48 + k)) 16 = mask_cat f 48 16 in
      let q : mask_of f 48 ≡ mask_of f 32 * 65536 + mask_of (λ k. f (32 + k)) 16 = mask_cat f 32 16 in
      let r : mask_of f 32 ≡ mask_of f 16 * 65536 + mask_of (λ k. f (16 + k)) 16 = mask_cat f 16 16 in
      omega arith

  pub masks-joined : {m : Masks} → MasksOf f m → word_of m.groups ≡ mask_of f 64
  masks-joined h = omega (arith, ap word_of h.groups, wide_is)

  pub masks_ones : {m : Masks} → MasksOf f m → ones_of m.groups ≡ how_many f 64
  masks_ones h =
      let p : how_many f 64 ≡ how_many f 48 + how_many (λ k. f (48 + k)) 16 = how_many-add f 48 16 in
      let q : how_many f 48 ≡ how_many f 32 + how_many (λ k. f (32 + k)) 16 = how_many-add f 32 16 in
      let r : how_many f 32 ≡ how_many f 16 + how_many (λ k. f (16 + k)) 16 = how_many-add f 16 16 in
      omega (
        arith,
        ap ones_of h.groups,
        mask_ones f 16,
        mask_ones (λ k. f (16 + k)) 16,
        mask_ones (λ k. f (32 + k)) 16,
        mask_ones (λ k. f (48 + k)) 16,
      )

pub masks_same : (f g : ℕ → Bool) → ((k : ℕ) → k < 64 → f k ≡ g k) → {m : Masks} → MasksOf f m → MasksOf g m
masks_same f g e h =
    let p = mask_same f g 16 (λ k l. e k (omega arith)) in
    let q = mask_same (λ k. f (16 + k)) (λ k. g (16 + k)) 16 (λ k l. e (16 + k) (omega arith)) in
    let r = mask_same (λ k. f (32 + k)) (λ k. g (32 + k)) 16 (λ k l. e (32 + k) (omega arith)) in
    let s = mask_same (λ k. f (48 + k)) (λ k. g (48 + k)) 16 (λ k l. e (48 + k) (omega arith)) in
    record { groups = h.groups ∙ (λ i. p i ∷ q i ∷ r i ∷ s i ∷ []) }

-- A word of 64 bits whose top n are a mask, all others clear: its top bit is the first leaf, and doubled it is the mask without that leaf.
abbrev pub Left : (ℕ → Bool) → ℕ → ℕ → Type 0
Left f n on = on ≡ mask_of f n * 2 ^ (64 - n)

module _ (f : ℕ → Bool) where
  -- the first z columns shifted out
  pub left_skip : (z : ℕ) → z ≤ 64 → Left (λ k. f (z + k)) (64 - z) (mask_of f 64 * 2 ^ z % 2 ^ 64)
  left_skip z h =
      let e : z + (64 - z) ≡ 64 = omega arith in
      let i : (64 - z) + z ≡ 64 = omega arith in
      let j : 64 - (64 - z) ≡ z = omega arith in
      let rest = mask_of (λ k. f (z + k)) (64 - z) in
      let p : mask_of f 64 ≡ mask_of f z * 2 ^ (64 - z) + rest = ap (mask_of f) (sym e) ∙ mask_cat f z (64 - z) in
      let w : 2 ^ (64 - z) * 2 ^ z ≡ 2 ^ 64 = sym (pow-add 2 (64 - z) z) ∙ ap (λ (k : ℕ). 2 ^ k) i in
      let l : rest * 2 ^ z < 2 ^ 64 =
      subst (λ (k : ℕ). rest * 2 ^ z < 2 ^ k) i (shl_lt (64 - z) z (mask_lt (λ k. f (z + k)) (64 - z))) in
      ap (λ (k : ℕ). k * 2 ^ z % 2 ^ 64) p
      ∙ ap (λ (k : ℕ). k % 2 ^ 64) (add-mul (mask_of f z * 2 ^ (64 - z)) rest (2 ^ z)
      ∙ ap (λ (k : ℕ). k + rest * 2 ^ z) (mul_assoc (mask_of f z) (2 ^ (64 - z)) (2 ^ z) ∙ ap (λ (k : ℕ). mask_of f z * k) w))
      ∙ digits_mod (mask_of f z) l
      ∙ ap (λ (k : ℕ). rest * 2 ^ k) (sym j)

  first_leaf : mask_of f 1 ≡ bit (f 0)
  unfolding mask_of
  first_leaf = zero-add (bit (f 0))

  module _ (r : ℕ) (h : r < 64) where
    abbrev rest : ℕ
    rest = mask_of (λ k. f (1 + k)) r * 2 ^ (63 - r)

    -- the first leaf in the top bit, and the others below it
    parts : mask_of f (1 + r) * 2 ^ (63 - r) ≡ bit (f 0) * 9223372036854775808 + rest
    parts =
        let e : r + (63 - r) ≡ 63 = omega arith in
        let w : 2 ^ r * 2 ^ (63 - r) ≡ 9223372036854775808 = sym (pow-add 2 r (63 - r)) ∙ ap (λ (k : ℕ). 2 ^ k) e in
        ap (λ (k : ℕ). k * 2 ^ (63 - r)) (mask_cat f 1 r ∙ ap (λ (k : ℕ). k * 2 ^ r + mask_of (λ j. f (1 + j)) r) first_leaf)
        ∙ add-mul (bit (f 0) * 2 ^ r) (mask_of (λ k. f (1 + k)) r) (2 ^ (63 - r))
        ∙ ap (λ (k : ℕ). k + rest) (mul_assoc (bit (f 0)) (2 ^ r) (2 ^ (63 - r)) ∙ ap (λ (k : ℕ). bit (f 0) * k) w)

    rest_lt : rest < 9223372036854775808
    rest_lt =
        let e : r + (63 - r) ≡ 63 = omega arith in
        subst (λ (k : ℕ). rest < 2 ^ k) e (shl_lt r (63 - r) (mask_lt (λ k. f (1 + k)) r))

    rest_doubled : rest * 2 ≡ mask_of (λ k. f (1 + k)) r * 2 ^ (64 - r)
    rest_doubled =
        let e : 64 - r ≡ suc (63 - r) = omega arith in
        mul_assoc (mask_of (λ k. f (1 + k)) r) (2 ^ (63 - r)) 2
        ∙ ap (λ (k : ℕ). mask_of (λ k. f (1 + k)) r * k) (sym (ap (λ (k : ℕ). 2 ^ k) e ∙ pow-suc 2 (63 - r)))

    word_is : (on : ℕ) → Left f (suc r) on → on ≡ bit (f 0) * 9223372036854775808 + rest
    word_is on l =
        let e : 64 - suc r ≡ 63 - r = omega arith in
        let i : suc r ≡ 1 + r = omega arith in
        l ∙ ap₂ (λ (n k : ℕ). mask_of f n * 2 ^ k) i e ∙ parts

  pub top_set : (n on : ℕ) → n ≤ 64 → Left f n on → 9223372036854775808 ≤ on
      → (0 < n) × (f 0 ≡ true) × Left (λ k. f (1 + k)) (n - 1) (on * 2 % 2 ^ 64)
  unfolding mask_of
  top_set zero on h l t = absurd (omega (arith, l))
  top_set (suc r) on h l t = go (f 0) refl
    where
      k : r < 64
      k = omega arith

      go : (b : Bool) → f 0 ≡ b → (0 < suc r) × (f 0 ≡ true) × Left (λ k. f (1 + k)) (suc r - 1) (on * 2 % 2 ^ 64)
      go true e =
          let i : r ≡ suc r - 1 = omega arith in
          let b : bit (f 0) ≡ 1 = ap bit e in
          let d : on * 2 % 2 ^ 64 ≡ rest r k * 2 = omega (arith, word_is r k on l, rest_lt r k) in (
            omega arith,
            e,
            d ∙ rest_doubled r k ∙ ap (λ (n : ℕ). mask_of (λ j. f (1 + j)) n * 2 ^ (64 - n)) i,
          )
      go false e =
          let b : bit (f 0) ≡ 0 = ap bit e in
          absurd (omega (arith, word_is r k on l, rest_lt r k))

  pub top_clear : (n on : ℕ) → n ≤ 64 → Left f n on → on < 9223372036854775808 → 0 < n → f 0 ≡ false
  top_clear zero on h l t p = absurd (omega arith)
  top_clear (suc r) on h l t p = go (f 0) refl
    where
      go : (b : Bool) → f 0 ≡ b → f 0 ≡ false
      go true e =
          let b : bit (f 0) ≡ 1 = ap bit e in
          absurd (omega (arith, word_is r (omega arith) on l))
      go false e = e
