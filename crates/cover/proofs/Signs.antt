-- Signs of numbers as the machine's tests against 0 read them, and what `in_ticks` makes of a number and of dy.
use Prim.Native.Nat.{ℕ, zero, suc, ◌<◌}
use mathlib.Core.Path.{◌≡◌, refl, sym, ◌∙◌, ap, ap₂, subst}
use mathlib.Core.Bool.{Bool}
use native.Mathlib.Omega.{arith}
use lib.Dec.{T}
use lib.IntN.{ℤ, pos, negsuc, ◌*ℤ◌}
use lib.Signed.{lt_z}
use mir.Syntax.{w64}
use mir.Val.{SFits, to_z, of_z}
use mir.ValLaws.{to_z-of_z}
use borrow.Author.Tests.{lt-ltb, le-ltb}
use Rattle.ints.proofs.Bounds.{Within, fits_64}
use Rattle.ints.proofs.Machine.{got_lit, Code, known, ◌⊟◌, word_of, meant, fine, reads_as}
use Rattle.rules.specs.Triangles.{positive, negative}
use Rattle.cover.specs.Side.{scale}

-- -1 - z
abbrev pub opposed_c : Code w64 → Code w64
opposed_c z = known (got_lit w64 18446744073709551615 tt) ⊟ z

-- signs as the tests read them

pub above : (z : ℤ) → lt_z (pos 0) z ≡ positive z
above (pos zero) = refl
above (pos (suc n)) = lt-ltb 0 (suc n) (omega arith)
above (negsuc n) = refl

pub below : (z : ℤ) → lt_z z (pos 0) ≡ negative z
below (pos n) = le-ltb n 0 (omega arith)
below (negsuc n) = refl

-- one test of a machine number against 0, each way
pub read_above : (z : ℤ) {b : Bool} → SFits w64 z → lt_z (pos 0) (to_z w64 (of_z w64 z)) ≡ b → positive z ≡ b
read_above z f h = sym (above z) ∙ ap (lt_z (pos 0)) (sym (to_z-of_z w64 z f)) ∙ h

pub read_below : (z : ℤ) {b : Bool} → SFits w64 z → lt_z (to_z w64 (of_z w64 z)) (pos 0) ≡ b → negative z ≡ b
read_below z f h = sym (below z) ∙ ap (λ (k : ℤ). lt_z k (pos 0)) (sym (to_z-of_z w64 z f)) ∙ h

-- a test of a computed number against 0
pub code_above : (k : Code w64) (t : T (fine k)) {b : Bool} → lt_z (pos 0) (to_z w64 (word_of k)) ≡ b → positive (meant k) ≡ b
code_above k t h = sym (above (meant k)) ∙ ap (lt_z (pos 0)) (sym (reads_as k t)) ∙ h

-- what `in_ticks` makes of a number and of dy, as it reads both
pub scaled_read : (d : Code w64) (t : T (fine d)) {v w : ℤ} {n : ℕ} → v ≡ w → Within n w → n < 9223372036854775808
    → scale (to_z w64 (word_of d)) *ℤ to_z w64 (of_z w64 v) ≡ scale (meant d) *ℤ w
scaled_read d t {v} {n = n} e h l =
    ap₂ (λ (y z : ℤ). scale y *ℤ z) (reads_as d t) (to_z-of_z w64 v (fits_64 (subst (Within n) (sym e) h) l) ∙ e)
