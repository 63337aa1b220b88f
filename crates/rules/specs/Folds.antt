-- Folds: a thing done at 0, 1, .. in order; counting; and choosing by a test.
use Rattle.std.specs.Prelude.{ℕ, zero, suc, ◌+◌, Bool, true, false}

-- step 0, then step 1, .., then step (n - 1)
unfoldable pub upto : {A : Type 0} → (ℕ → A → A) → ℕ → A → A
upto step zero a = a
upto step (suc n) a = step n (upto step n a)

abbrev pub bit : Bool → ℕ
bit true = 1
bit false = 0

-- how many of 0, .., n - 1 pass the test
unfoldable pub how_many : (ℕ → Bool) → ℕ → ℕ
how_many test zero = 0
how_many test (suc n) = how_many test n + bit (test n)

-- how many pixels (x, y) of w columns and h rows pass the test
unfoldable pub pixels : (ℕ → ℕ → Bool) → ℕ → ℕ → ℕ
pixels test w zero = 0
pixels test w (suc h) = pixels test w h + how_many (λ x. test x h) w

abbrev pub choose : {A : Type 0} → Bool → A → A → A
choose true a b = a
choose false a b = b
