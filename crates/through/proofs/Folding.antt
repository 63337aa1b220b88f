-- A number folded at the middle between 0 and -1: its quotient, folded back, is the quotient rounded down.
use Prim.Native.Nat.{ℕ, ◌/◌, ◌≤◌, ◌<◌}
use mathlib.Core.Path.{◌≡◌, refl, sym, ◌∙◌, ap}
use mathlib.Core.Bool.{true, false, false≢true, true≢false}
use native.Mathlib.Omega.{arith}
use lib.IntN.{ℤ, pos, negsuc, nat_abs, ◌-ℤ◌}
use lib.Signed.{lt_z, quot_z, ◌<ℤ◌}
use borrow.Author.Tests.{le-ltb}
use mir.Syntax.{w64}
use mir.Val.{of_z}
use Rattle.ints.proofs.Order.{is_pos, is_negsuc, is-sub, is_eq, lt-is}
use Rattle.interpolation.specs.Interpolation.{rounded_down}

abbrev pub folded : ℤ → ℕ
folded (pos n) = n
folded (negsuc n) = n

back : (n : ℕ) → negsuc 0 -ℤ negsuc n ≡ pos n
back n = is_eq (is-sub (is_negsuc 0) (is_negsuc n)) (is_pos n) (omega arith)

pub again : (n : ℕ) → negsuc 0 -ℤ pos n ≡ negsuc n
again n = is_eq (is-sub (is_negsuc 0) (is_pos n)) (is_negsuc n) (omega arith)

not_below : (n : ℕ) → lt_z (pos n) (pos 0) ≡ false
not_below n = le-ltb n 0 (omega arith)

pub fold_back : (n : ℤ) → lt_z n (pos 0) ≡ true → of_z w64 (negsuc 0 -ℤ n) ≡ folded n
fold_back (pos n) e = absurd (false≢true (sym (not_below n) ∙ e))
fold_back (negsuc n) e = ap (of_z w64) (back n)

pub fold_on : (n : ℤ) → lt_z n (pos 0) ≡ false → of_z w64 n ≡ folded n
fold_on (pos n) e = refl
fold_on (negsuc n) e = absurd (true≢false e)

pub folded_small : (n : ℤ) → folded n ≤ nat_abs n
folded_small (pos n) = omega arith
folded_small (negsuc n) = omega arith

-- the quotient, on either side

pub down-below : (n d : ℤ) → lt_z n (pos 0) ≡ true → negsuc (folded n / nat_abs d) ≡ rounded_down n d
unfolding rounded_down
down-below (pos n) d e = absurd (false≢true (sym (not_below n) ∙ e))
down-below (negsuc n) d e = refl

pub down_on : (n d : ℤ) → lt_z n (pos 0) ≡ false → pos (folded n / nat_abs d) ≡ rounded_down n d
unfolding rounded_down
down_on (pos n) d e = refl
down_on (negsuc n) d e = absurd (true≢false e)

-- by a positive divisor

pub some : (d : ℤ) → pos 0 <ℤ d → 0 < of_z w64 d
some (pos d) h = omega (arith, lt-is (is_pos 0) (is_pos d) h)
some (negsuc d) h = absurd h.lt

pub quotient : (n : ℕ) (d : ℤ) → pos 0 <ℤ d → quot_z (pos n) d ≡ pos (n / nat_abs d)
quotient n (pos d) h = refl
quotient n (negsuc d) h = absurd h.lt
