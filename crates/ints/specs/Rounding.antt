use Rattle.std.specs.Prelude.{ℤ, ◌+ℤ◌, ◌*ℤ◌, ◌≤ℤ◌, ◌<ℤ◌}

-- q is n divided by d, rounded down: the greatest whole number whose product with d is not above n
pub record RoundsDown (n d q : ℤ) : Type 0 where
  pub not_above : (d *ℤ q) ≤ℤ n
  pub greatest : n <ℤ (d *ℤ q +ℤ d)
