-- A number folded where it is below 0: its quotient by a positive divisor, folded back, is the quotient rounded down.
use Prim.Native.Nat.{ℕ}
use mathlib.Core.Path.{◌≡◌, refl}
use mathlib.Core.Bool.{false}
use native.Mathlib.Omega.{arith}
use lib.IntN.{ℤ, pos, negsuc}
use lib.Signed.{lt_z, quot_z, ◌<ℤ◌}
use borrow.Author.Tests.{le-ltb}
use Rattle.interpolation.specs.Interpolation.{rounded_down}
use Rattle.through.specs.Through.{folded}

not_below : (n : ℕ) → lt_z (pos n) (pos 0) ≡ false
not_below n = le-ltb n 0 (omega arith)

pub rounds_down : (n d : ℤ) → pos 0 <ℤ d → folded (lt_z n (pos 0)) (quot_z (folded (lt_z n (pos 0)) n) d) ≡ rounded_down n d
unfolding rounded_down
rounds_down (pos n) (pos d) h = rw (not_below n)
rounds_down (negsuc n) (pos d) h = refl
rounds_down (pos n) (negsuc d) h = absurd h.lt
rounds_down (negsuc n) (negsuc d) h = absurd h.lt
