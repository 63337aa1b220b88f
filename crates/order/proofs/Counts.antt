-- Two counts are added: where of each pixel the two tests together count as one test, so do the numbers of pixels.
use Prim.Native.Nat.{ℕ, zero, suc, ◌+◌, ◌<◌}
use mathlib.Core.Path.{◌≡◌, refl}
use mathlib.Core.Bool.{Bool}
use native.Mathlib.Omega.{arith}
use Rattle.rules.specs.Folds.{bit, how_many, pixels}

how_many-sum : (t u v : ℕ → Bool) (n : ℕ)
    → ((i : ℕ) → i < n → bit (t i) + bit (u i) ≡ bit (v i))
    → how_many t n + how_many u n ≡ how_many v n
unfolding how_many
how_many-sum t u v zero h = refl
how_many-sum t u v (suc n) h =
    let l : how_many t n + how_many u n ≡ how_many v n = how_many-sum t u v n (λ i l. h i (omega arith)) in
    omega (arith, h n (omega arith))

pub pixels-sum : (t u v : ℕ → ℕ → Bool) (w n : ℕ)
    → ((x y : ℕ) → x < w → y < n → bit (t x y) + bit (u x y) ≡ bit (v x y))
    → pixels t w n + pixels u w n ≡ pixels v w n
unfolding pixels
pixels-sum t u v w zero h = refl
pixels-sum t u v w (suc n) h =
    let l : pixels t w n + pixels u w n ≡ pixels v w n = pixels-sum t u v w n (λ x y a b. h x y a (omega arith)) in
    omega (arith, how_many-sum (λ x. t x n) (λ x. u x n) (λ x. v x n) w (λ x a. h x n a (omega arith)))
