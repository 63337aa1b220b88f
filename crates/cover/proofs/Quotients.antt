-- Laws of quotients rounded up: division gives one of either sign, two add up with their roundings, one whose roundings times the
-- divisor are less than a unit says where a multiple of the unit crosses 0, and each is near what it is raised by.
use Prim.Native.Nat.{ℕ, ◌+◌, ◌*◌, ◌-◌, ◌/◌, ◌%◌, ◌≤◌, ◌<◌}
use mathlib.Core.Path.{◌≡◌, refl, sym, ◌∙◌, ap, subst}
use mathlib.Core.List.{[], ◌∷◌}
use mathlib.Core.Bool.{Bool, true, false}
use native.Mathlib.Nat.{mul-add, mul-one, mul_left_comm, mod-lt, div-le_self, div-add-mod}
use native.Mathlib.Nat.{mul-le-mul_left, mul-le-mul_right, le_of_mul-le-mul_left, lt_of_mul-lt-mul_left}
use native.Mathlib.Omega.{arith}
use lib.Dec.{leb}
use lib.IntN.{ℤ, pos, negsuc, ◌+ℤ◌, ◌-ℤ◌, ◌*ℤ◌}
use lib.Signed.{non_neg}
use borrow.Author.Tests.{le-leb, lt-leb}
use Rattle.ints.proofs.Poly.{var, con, ◌⊖◌, solve}
use Rattle.ints.proofs.Order.{Is, is_pos, is_negsuc, is-neg, is_self, is-add, is-sub, is-times, is_same, is_nat}
use Rattle.ints.proofs.Order.{le_is, lt-is, up, dn, non_neg_true, non_neg_false}
use Rattle.ints.proofs.Bounds.{Within, within_lo, within_hi}
use Rattle.cover.specs.Units.{unit, Rounded}

-- a number that is not negative, and one that is
module _ (n a r : ℕ) (h : 0 < a) where
  rest : n % a < a
  rest = mod-lt n h

  pub rounded_on : Rounded (pos n) a r 1 (r + n / a + 1)
  rounded_on =
      record {
        over = a - n % a;
        few = omega (arith, mul-one a);
        whole =
            (is_same {q = a * (r + n / a + 1)} {m = a * r + (a - n % a)} (is_pos n)
            (omega (arith, rest, mul-add a (r + n / a) 1, mul-add a r (n / a), mul-one a, div-add-mod n a))
            ).is;
      }

  pub rounded_back : {z : ℤ} → pos n ≡ negsuc 0 -ℤ z → n ≤ r → Rounded z a r 1 (r - n / a)
  rounded_back {z} e l =
      let twice : z ≡ negsuc 0 -ℤ (negsuc 0 -ℤ z) = solve (z ∷ []) (var 0) (con (negsuc 0) ⊖ (con (negsuc 0) ⊖ var 0)) tt in
      let back : z ≡ negsuc 0 -ℤ pos n = twice ∙ ap (λ (y : ℤ). negsuc 0 -ℤ y) (sym e) in
      let m = r - n / a in
      let sum : m + n / a ≡ r = omega (arith, div-le_self n a) in
      let times : a * (m + n / a) ≡ a * r = ap (λ (i : ℕ). a * i) sum in
      record {
        over = n % a + 1;
        few = omega (arith, rest, mul-one a);
        whole =
            (is_same {q = a * m} {m = a * r + (n % a + 1)}
            (subst (λ (y : ℤ). Is y (0 + 0) (1 + n)) (sym back) (is-sub (is_negsuc 0) (is_pos n)))
            (omega (arith, mul-add a m (n / a), div-add-mod n a))
            ).is;
      }

module _ {z : ℤ} {a r k m : ℕ} (h : Rounded z a r k m) where
  is : Is z (a * m) (a * r + h.over)
  is = record { is = h.whole }

  pub rounded_more : (j : ℕ) → k ≤ j → Rounded z a r j m
  rounded_more j l = record { over = h.over; few = omega (arith, h.few, mul-le-mul_left a l); whole = h.whole }

  -- where z is u units and the roundings times a are less than one: u crosses 0 where the column's ticks and the quotient reach what it
  -- is raised by
  pub rounded_crosses : (u : ℤ) → z ≡ pos unit *ℤ u → a * k < unit → 1 ≤ a → (x : ℕ)
      → non_neg (u +ℤ pos (a * x)) ≡ leb r (unit * x + m)
  rounded_crosses u e less some x = go (non_neg (u +ℤ pos (a * x))) refl
    where
      i : Is u (up u) (dn u)
      i = is_self u

      at : Is (u +ℤ pos (a * x)) (up u + a * x) (dn u + 0)
      at = is-add i (is_pos (a * x))

      same : a * m + unit * dn u ≡ unit * up u + (a * r + h.over)
      same = is_nat is (subst (λ (y : ℤ). Is y (unit * up u) (unit * dn u)) (sym e) (is-times unit i))

      ticks : a * (unit * x + m) ≡ unit * (a * x) + a * m
      ticks = mul-add a (unit * x) m ∙ ap (λ (j : ℕ). j + a * m) (mul_left_comm a unit x)

      go : (b : Bool) → non_neg (u +ℤ pos (a * x)) ≡ b → b ≡ leb r (unit * x + m)
      go true n =
          let l : 0 + (dn u + 0) ≤ up u + a * x + 0 = le_is (is_pos 0) at (non_neg_true (u +ℤ pos (a * x)) n) in
          sym (le-leb r (unit * x + m) (le_of_mul-le-mul_left {k = a} (omega (arith, ticks, same)) some))
      go false n =
          let l : up u + a * x + 0 < 0 + (dn u + 0) = lt-is at (is_pos 0) (non_neg_false (u +ℤ pos (a * x)) n) in
          sym (lt-leb r (unit * x + m) (lt_of_mul-lt-mul_left a (omega (arith, ticks, same, less, h.few))))

  -- of a number within n
  module _ (n : ℕ) (w : Within n z) (some : 1 ≤ a) where
    more : 1 * n ≤ a * n
    more = mul-le-mul_right n some

    pub rounded_low : r ≤ m + n
    rounded_low =
        le_of_mul-le-mul_left {k = a}
        (omega (arith, more, le_is (is-neg (is_pos n)) is (within_lo w), mul-add a m n))
        some

    pub rounded_high : m ≤ n + r + k
    rounded_high =
        le_of_mul-le-mul_left {k = a}
        (omega (arith, more, le_is is (is_pos n) (within_hi w), mul-add a (n + r) k, mul-add a n r, h.few))
        some

-- a sum of two has the roundings of both
pub rounded_sum : {z y : ℤ} {a r s k j m n : ℕ} → Rounded z a r k m → Rounded y a s j n → s ≤ m + n
    → Rounded (z +ℤ y) a r (k + j) (m + n - s)
rounded_sum {z} {y} {a} {r} {s} {k} {j} {m} {n} g h l =
    let sum : m + n - s + s ≡ m + n = omega arith in
    let whole : a * (m + n - s + s) ≡ a * (m + n) = ap (λ (i : ℕ). a * i) sum in
    record {
      over = g.over + h.over;
      few = omega (arith, g.few, h.few, mul-add a k j);
      whole =
          (is_same {q = a * (m + n - s)} {m = a * r + (g.over + h.over)} (is-add (is g) (is h))
          (omega (arith, mul-add a (m + n - s) s, mul-add a m n))
          ).is;
    }
