-- Quotients rounded up, with the roundings of a sum counted, and the numbers that they are raised by so that none is negative.
use Rattle.std.specs.Prelude.{ℕ, ◌+◌, ◌*◌, ◌≤◌, ◌≡◌, ℤ, pos, nat_abs, ◌+ℤ◌}

-- a column, in ticks
abbrev pub unit : ℕ
unit = 67108864

-- what a crossing and a step down are raised by
abbrev pub raise : ℕ
raise = 9223372036854775808

abbrev pub lift : ℕ
lift = 9007199254740992

-- a number whose quotient can be raised by r, within 64 bits
pub record Raisable (z : ℤ) (r : ℕ) : Type 0 where
  pub fits : nat_abs z ≤ 9000000000000000000
  pub below : nat_abs z ≤ r
  pub most : r ≤ raise

-- m less r is z / a or more, by k at most: 1 for each rounding
pub record Rounded (z : ℤ) (a r k m : ℕ) : Type 0 where
  pub over : ℕ
  pub few : over ≤ a * k
  pub whole : z +ℤ pos (a * r + over) ≡ pos (a * m)
