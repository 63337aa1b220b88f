-- What a chain of tests answers, from the tests that were made on the way.
use mathlib.Core.Path.{◌≡◌, refl}
use mathlib.Core.Bool.{Bool, true, false, ◌&&◌, ◌||◌}
use Rattle.rules.specs.Folds.{choose}

pub and_true : (a b : Bool) → a ≡ true → b ≡ (a && b)
and_true a b e = rw e

pub and-false : (a b : Bool) → a ≡ false → a ≡ (a && b)
and-false a b e = rw e

pub or_true : (a b : Bool) → a ≡ true → a ≡ (a || b)
or_true a b e = rw e

pub or_false : (a b : Bool) → a ≡ false → b ≡ (a || b)
or_false a b e = rw e

pub and_assoc : (a b d : Bool) → (a && b && d) ≡ (a && (b && d))
and_assoc true b d = refl
and_assoc false b d = refl

pub first_fails : (a b d : Bool) → a ≡ false → false ≡ (a && b && d)
first_fails a b d p = rw p

pub first_passes : (a b d : Bool) → a ≡ true → (b && d) ≡ (a && b && d)
first_passes a b d p = rw p

pub chosen : {A : Type 0} (t : Bool) (a b : A) → t ≡ true → a ≡ choose t a b
chosen t a b e = rw e

pub other : {A : Type 0} (t : Bool) (a b : A) → t ≡ false → b ≡ choose t a b
other t a b e = rw e
