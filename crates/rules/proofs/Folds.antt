-- Laws of folds and counts: one more step, two stretches joined, steps that change nothing, steps that agree.
use Prim.Native.Nat.{ℕ, zero, suc, ◌+◌, ◌*◌, ◌≤◌, ◌<◌}
use mathlib.Core.Path.{◌≡◌, refl, ◌∙◌, ap}
use mathlib.Core.Bool.{Bool, false}
use native.Mathlib.Numerals.{add-one}
use native.Mathlib.Nat.{add-suc, add-zero, le_refl, mul-suc}
use native.Mathlib.Omega.{arith}
use Rattle.rules.specs.Folds.{upto, bit, how_many, pixels}
use Rattle.rules.proofs.Choices.{bit_le}

up : {i n : ℕ} → i < n → i < suc n
up l = omega arith

module _ {A : Type 0} (f : ℕ → A → A) where
  pub upto_more : (n : ℕ) (a : A) → upto f (n + 1) a ≡ f n (upto f n a)
  unfolding upto
  upto_more n a = rw add-one

  pub upto-none : (a : A) → upto f 0 a ≡ a
  unfolding upto
  upto-none a = refl

  pub upto_add : (n k : ℕ) (a : A) → upto f (n + k) a ≡ upto (λ i. f (n + i)) k (upto f n a)
  unfolding upto
  upto_add n zero a = rw add-zero
  upto_add n (suc k) a = rw add-suc (ap (f (n + k)) (upto_add n k a))

  pub upto_still : (n : ℕ) (a : A) → ((i : ℕ) → i < n → f i a ≡ a) → upto f n a ≡ a
  unfolding upto
  upto_still zero a h = refl
  upto_still (suc n) a h = ap (f n) (upto_still n a (λ i l. h i (up l))) ∙ h n (le_refl (suc n))

  pub upto-keeps : (P : A → Type 0) (n : ℕ) (a : A) → ((i : ℕ) (b : A) → i < n → P b → P (f i b)) → P a → P (upto f n a)
  unfolding upto
  upto-keeps P zero a h p = p
  upto-keeps P (suc n) a h p =
      h n (upto f n a) (le_refl (suc n)) (upto-keeps P n a (λ i b l. h i b (up l)) p)

  pub upto_same : (g : ℕ → A → A) (n : ℕ) (a : A) → ((i : ℕ) (b : A) → i < n → f i b ≡ g i b) → upto f n a ≡ upto g n a
  unfolding upto
  upto_same g zero a h = refl
  upto_same g (suc n) a h =
      ap (f n) (upto_same g n a (λ i b l. h i b (up l))) ∙ h n (upto g n a) (le_refl (suc n))

module _ (t : ℕ → Bool) where
  pub how_many_more : (n : ℕ) → how_many t (n + 1) ≡ how_many t n + bit (t n)
  unfolding how_many
  how_many_more n = rw add-one

  pub how_many-add : (n k : ℕ) → how_many t (n + k) ≡ how_many t n + how_many (λ i. t (n + i)) k
  unfolding how_many
  how_many-add n zero = rw (add-zero, add-zero)
  how_many-add n (suc k) = rw add-suc (ap (λ z. z + bit (t (n + k))) (how_many-add n k) ∙ omega arith)

  pub how_many-none : (n : ℕ) → ((i : ℕ) → i < n → t i ≡ false) → how_many t n ≡ 0
  unfolding how_many
  how_many-none zero h = refl
  how_many-none (suc n) h = rw (how_many-none n (λ i l. h i (up l)), h n (le_refl (suc n)))

  pub how_many_same : (u : ℕ → Bool) (n : ℕ) → ((i : ℕ) → i < n → t i ≡ u i) → how_many t n ≡ how_many u n
  unfolding how_many
  how_many_same u zero h = refl
  how_many_same u (suc n) h = rw (how_many_same u n (λ i l. h i (up l)), h n (le_refl (suc n)))

  pub how_many-le : (n : ℕ) → how_many t n ≤ n
  unfolding how_many
  how_many-le zero = omega arith
  how_many-le (suc n) = let h : how_many t n ≤ n = how_many-le n in omega (arith, bit_le (t n))

module _ (t : ℕ → ℕ → Bool) (w : ℕ) where
  pub pixels_more : (h : ℕ) → pixels t w (h + 1) ≡ pixels t w h + how_many (λ x. t x h) w
  unfolding pixels
  pixels_more h = rw add-one

  pub pixels-none : (h : ℕ) → ((x y : ℕ) → x < w → y < h → t x y ≡ false) → pixels t w h ≡ 0
  unfolding pixels
  pixels-none zero k = refl
  pixels-none (suc h) k =
      rw (pixels-none h (λ x y a b. k x y a (up b)), how_many-none (λ x. t x h) w (λ x a. k x h a (le_refl (suc h))))

  pub pixels_same : (u : ℕ → ℕ → Bool) (h : ℕ) → ((x y : ℕ) → x < w → y < h → t x y ≡ u x y) → pixels t w h ≡ pixels u w h
  unfolding pixels
  pixels_same u zero k = refl
  pixels_same u (suc h) k =
      rw (
        pixels_same u h (λ x y a b. k x y a (up b)),
        how_many_same (λ x. t x h) (λ x. u x h) w (λ x a. k x h a (le_refl (suc h))),
      )

  pub pixels-le : (b h : ℕ) → w ≤ b → pixels t w h ≤ b * h
  unfolding pixels
  pixels-le b zero l = omega arith
  pixels-le b (suc h) l =
      let k : pixels t w h ≤ b * h = pixels-le b h l in
      omega (arith, how_many-le (λ x. t x h) w, mul-suc b h)
