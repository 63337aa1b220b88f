-- Laws of choosing by a test: what holds of both choices, and a table of cases whose first wins.
use Prim.Native.Nat.{ℕ, suc}
use mathlib.Core.Path.{◌≡◌, refl}
use mathlib.Core.Bool.{Bool, true, false, ◌&&◌, ◌||◌, false≢true, true≢false}
use native.Mathlib.Omega.{arith}
use Rattle.rules.specs.Folds.{choose}

module _ {A : Type 0} (P : A → Type 0) (b : Bool) {x y : A} where
  pub pick : (b ≡ true → P x) → (b ≡ false → P y) → P (choose b x y)
  pick p q = go b p q
    where
      go : (c : Bool) → (c ≡ true → P x) → (c ≡ false → P y) → P (choose c x y)
      go true p q = p refl
      go false p q = q refl

-- a case that does not apply, and the cases below it
pub no_case : (n : ℕ) {k : ℕ} (b : Bool) → choose b (suc n) k ≡ 0 → (b ≡ false) × (k ≡ 0)
no_case n true e = absurd (omega arith)
no_case n false e = (refl, e)

pub or_none : (a b : Bool) → (a || b) ≡ false → (a ≡ false) × (b ≡ false)
or_none true b e = absurd (true≢false e)
or_none false b e = (refl, e)

-- "a and b" never holds: where a does, b does not
pub and_none : (a b : Bool) → (a && b) ≡ false → a ≡ true → b ≡ false
and_none true b e h = e
and_none false b e h = absurd (false≢true h)

pub none_and : (a b : Bool) → (a ≡ true → b ≡ false) → (a && b) ≡ false
none_and true b h = h refl
none_and false b h = refl
