-- Laws of single tests and of what a number decides.
use Prim.Native.Nat.{ℕ, zero, suc, ◌≤◌}
use mathlib.Core.Path.{◌≡◌, refl, sym}
use mathlib.Core.Logic.{◌≢◌}
use mathlib.Core.Bool.{Bool, true, false, not, ◌&&◌, false≢true}
use native.Mathlib.Omega.{arith}
use lib.Dec.{leb, ltb, lt→ltb}
use lib.IntN.{ℤ, pos, negsuc}
use lib.Signed.{le_z, ◌<ℤ◌, lt_z_yes}
use borrow.Author.Tests.{leb-true, leb-false, lt-leb, lt-ltb, le-ltb, eq-eqb, ne_eqb}
use Rattle.rules.specs.Folds.{bit}
use Rattle.rules.specs.Triangles.{positive}
use Rattle.rules.specs.Calls.{accepted}

pub bit_le : (b : Bool) → bit b ≤ 1
bit_le true = omega arith
bit_le false = omega arith

pub not_leb : (a b : ℕ) → not (leb a b) ≡ ltb b a
not_leb a b = go (leb a b) refl
  where
    go : (t : Bool) → leb a b ≡ t → not t ≡ ltb b a
    go true h = sym (le-ltb b a (leb-true a b h))
    go false h = sym (lt-ltb b a (leb-false a b h))

pub accepted_no : {A : Type 0} (n : ℕ) (done kept : A) → n ≢ 0 → accepted n done kept ≡ kept
accepted_no n done kept h = rw (ne_eqb n 0 h)

pub accepted_yes : {A : Type 0} (n : ℕ) (done kept : A) → n ≡ 0 → accepted n done kept ≡ done
accepted_yes n done kept h = rw (eq-eqb n 0 h)

pub and_true : {a b : Bool} → a && b ≡ true → (a ≡ true) × (b ≡ true)
and_true {a = true} {b} h = (refl, h)
and_true {a = false} {b} h = (h, absurd (let z : ◌≡◌ {A = ℕ} 0 1 = cc in omega arith))

-- a sign, as a test and as an order
pub positive-lt : (z : ℤ) → positive z ≡ true → pos 0 <ℤ z
positive-lt (pos zero) e = absurd (false≢true e)
positive-lt (pos (suc n)) e = lt_z_yes (lt→ltb 0 (suc n) (omega arith))
positive-lt (negsuc n) e = absurd (false≢true e)

pub lt-positive : (z : ℤ) → pos 0 <ℤ z → positive z ≡ true
lt-positive (pos zero) h = absurd h.lt
lt-positive (pos (suc n)) h = refl
lt-positive (negsuc n) h = absurd h.lt

pub not_positive : (z : ℤ) → le_z z (pos 0) ≡ not (positive z)
not_positive (pos zero) = refl
not_positive (pos (suc n)) = lt-leb (suc n) 0 (omega arith)
not_positive (negsuc n) = refl

pub and_whole : (b : Bool) → b && true ≡ b
and_whole true = refl
and_whole false = refl
