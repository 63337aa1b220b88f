-- More laws of folds: a function that goes past a fold, two folds taken in pairs, and rows of columns as one fold.
use Prim.Native.Nat.{ℕ, zero, suc, ◌+◌, ◌*◌, ◌<◌}
use mathlib.Core.Path.{◌≡◌, refl, sym, ◌∙◌, ap}
use native.Mathlib.Omega.{arith}
use native.Mathlib.Nat.{le_refl, zero-mul, suc-mul}
use Rattle.rules.specs.Folds.{upto}
use Rattle.rules.proofs.Folds.{upto_add}

module _ {A : Type 0} where
  -- a function that goes past each step of a fold
  pub upto_past : (f : A → A) (g : ℕ → A → A) (n : ℕ) (a : A)
      → ((i : ℕ) (b : A) → i < n → g i (f b) ≡ f (g i b)) → upto g n (f a) ≡ f (upto g n a)
  unfolding upto
  upto_past f g zero a h = refl
  upto_past f g (suc n) a h =
      ap (g n) (upto_past f g n a (λ i b l. h i b (omega arith))) ∙ h n (upto g n a) (le_refl (suc n))

  -- two folds, taken in pairs
  pub upto_pairs : (f g : ℕ → A → A) (n : ℕ) (a : A) → ((i j : ℕ) (b : A) → i < n → j < n → g i (f j b) ≡ f j (g i b))
      → upto g n (upto f n a) ≡ upto (λ i b. g i (f i b)) n a
  unfolding upto
  upto_pairs f g zero a h = refl
  upto_pairs f g (suc n) a h =
      ap (g n)
      (upto_past (f n) g n (upto f n a) (λ i b l. h i n b (omega arith) (le_refl (suc n)))
      ∙ ap (f n) (upto_pairs f g n a (λ i j b l k. h i j b (omega arith) (omega arith))))

  -- rows of columns are one fold
  pub upto_rows : (f : ℕ → A → A) (w h : ℕ) (a : A) → upto (λ y. upto (λ x. f (y * w + x)) w) h a ≡ upto f (h * w) a
  unfolding upto
  upto_rows f w zero a = rw zero-mul
  upto_rows f w (suc h) a =
      ap (upto (λ x. f (h * w + x)) w) (upto_rows f w h a)
      ∙ sym (upto_add f (h * w) w a)
      ∙ ap (λ k. upto f k a) (sym (suc-mul h w))
