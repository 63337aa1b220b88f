-- `rounded_down` rounds down by a positive divisor, and nothing else does.
use mathlib.Core.Path.{◌≡◌, sym, subst}
use native.Mathlib.Omega.{arith}
use lib.IntN.{ℤ, pos}
use lib.Signed.{◌<ℤ◌}
use Rattle.ints.specs.Rounding.{RoundsDown}
use Rattle.ints.proofs.Order.{successor}
use Rattle.ints.proofs.Rounding.{shr_z_rounds_down, rounds_to_one}
use Rattle.interpolation.specs.Interpolation.{rounded_down}

module _ {n d : ℤ} (h : pos 0 <ℤ d) where
  pub rounded_down_lem : RoundsDown n d (rounded_down n d)
  unfolding rounded_down
  rounded_down_lem =
      let (k, e) = successor h in
      subst (λ (z : ℤ). RoundsDown n z (rounded_down n z)) (sym e) (shr_z_rounds_down n _ (omega arith))

  pub rounded_only : {q : ℤ} → RoundsDown n d q → q ≡ rounded_down n d
  rounded_only g = rounds_to_one h g rounded_down_lem
