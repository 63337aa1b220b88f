-- A word's signed reading, held in 64 bits: what moving up and down by 2^31 gives, within 2^31, and 0 for 0 alone. By cases on the
-- test below 2^31.
use Prim.Native.Nat.{ℕ, suc, ◌+◌, ◌-◌, ◌%◌, ◌<◌, ◌≤◌}
use mathlib.Core.Path.{◌≡◌, refl, sym, ap, subst}
use mathlib.Core.Bool.{Bool, true, false}
use native.Mathlib.Omega.{arith}
use lib.Dec.{ltb}
use lib.IntN.{ℤ, pos, negsuc, ◌-ℤ◌}
use mir.Syntax.{w32, w64}
use mir.Val.{Fits, sel, of_z}
use mir.ValLaws.{to_z-Fits}
use borrow.Author.Tests.{ltb-true, ltb-false, lt-ltb, le-ltb}
use Rattle.ints.proofs.Bounds.{Within, within_fits}
use Rattle.ints.proofs.Machine.{got_in, Code, known}
use Rattle.instructions.specs.Words.{signed}

-- the result of a call, in an expression
abbrev pub reading : {a : ℕ} {z : ℤ} → Fits w32 a → z ≡ signed a → Code w64
reading {a} f e = known (got_in {w = w64} (subst (Within 2147483648) (sym e) (within_fits (to_z-Fits w32 a f))) tt)

module _ (v : ℕ) (f : Fits w32 v) where
  pub moved : pos ((v + 2147483648) % 4294967296) -ℤ pos 2147483648 ≡ signed v
  moved = go (ltb v 2147483648) refl
    where
      up : v < 2147483648 → (v + 2147483648) % 4294967296 ≡ v + 2147483648
      up l = omega arith

      around : 2147483648 ≤ v → (v + 2147483648) % 4294967296 ≡ v - 2147483648
      around l = omega arith

      go : (t : Bool)
          → ltb v 2147483648 ≡ t
          → pos ((v + 2147483648) % 4294967296) -ℤ pos 2147483648 ≡ sel t (pos v) (negsuc (4294967296 - suc v))
      go true e = rw (up (ltb-true v 2147483648 e), le-ltb (v + 2147483648) 2147483648 (omega arith)) (ap pos (omega arith))
      go false e =
          let l : 2147483648 ≤ v = ltb-false v 2147483648 e in
          rw (around l, lt-ltb (v - 2147483648) 2147483648 (omega arith)) (ap negsuc (omega arith))

  pub not_zero : (v ≡ 0 → ⊥) → 0 < of_z w64 (signed v)
  not_zero n = go (ltb v 2147483648)
    where
      go : (t : Bool) → 0 < of_z w64 (sel t (pos v) (negsuc (4294967296 - suc v)))
      go true = omega arith
      go false = omega arith
