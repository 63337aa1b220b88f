-- Numbers that a determinant is small of, and what can be divided in 64 bits.
use Rattle.std.specs.Prelude.{◌≤◌, Bool, true, false, ℤ, pos, negsuc, nat_abs, ◌-ℤ◌, ◌*ℤ◌, ◌<ℤ◌}

-- three numbers no larger than values in range
pub record Small (a b c : ℤ) : Type 0 where
  pub first : nat_abs a ≤ 32767
  pub second : nat_abs b ≤ 32767
  pub third : nat_abs c ≤ 32767

-- the determinant of the rows (p1, q1, 1), (p2, q2, 1) and (p3, q3, 1), by differences from the first
abbrev pub determinant : ℤ → ℤ → ℤ → ℤ → ℤ → ℤ → ℤ
determinant p1 p2 p3 q1 q2 q3 = (p2 -ℤ p1) *ℤ (q3 -ℤ q1) -ℤ (p3 -ℤ p1) *ℤ (q2 -ℤ q1)

-- a positive divisor, and a number up to 2^62
pub record CanDivide (n d : ℤ) : Type 0 where
  pub small : nat_abs n ≤ 4611686018427387904
  pub positive : pos 0 <ℤ d

-- a number folded at the middle between 0 and -1, where it is to be folded
abbrev pub folded : Bool → ℤ → ℤ
folded false z = z
folded true (pos n) = negsuc n
folded true (negsuc n) = pos n
