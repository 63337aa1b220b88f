-- The beginning that the drawing's numbers share, 3, then 5, then a call's others, taken apart once.
use Prim.Native.Nat.{ℕ}
use mathlib.Core.Path.{◌≡◌, refl}
use mathlib.Core.Logic.{◌≢◌, ◌⊎◌, inl, inr}
use mathlib.Core.Bool.{Bool, true, false, not}
use native.Mathlib.Omega.{arith}
use Rattle.rules.specs.declared.Screen.{Screen}
use Rattle.rules.specs.Folds.{choose}
use Rattle.rules.specs.Sizes.{sound}
use Rattle.rules.specs.Numbers.{too_long, after_screen, screen_number}

-- neither 3 nor 5 applies
pub record ScreenPasses (n : ℕ) (s : Screen) : Type 0 where
  pub fits : too_long n ≡ false
  pub is_sound : sound n s ≡ true

module _ (n : ℕ) (s : Screen) (others : ℕ) where
  pub screen_passed : after_screen n s others ≡ 0 → ScreenPasses n s × (others ≡ 0)
  screen_passed h = go (too_long n) (sound n s) refl refl h
    where
      go : (a b : Bool) → too_long n ≡ a → sound n s ≡ b → choose a 3 (choose (not b) 5 others) ≡ 0 → ScreenPasses n s × (others ≡ 0)
      go true b p q e = absurd (omega arith)
      go false false p q e = absurd (omega arith)
      go false true p q e = (record { fits = p; is_sound = q }, e)

  pub others_follow : ScreenPasses n s → after_screen n s others ≡ others
  others_follow p = rw (p.fits, p.is_sound)

  pub screen_refuses : screen_number n s ≢ 0 → screen_number n s ≡ after_screen n s others
  unfolding screen_number
  screen_refuses h = go (too_long n) (sound n s) h
    where
      go : (a b : Bool) → ◌≢◌ {A = ℕ} (choose a 3 (choose (not b) 5 0)) 0
          → ◌≡◌ {A = ℕ} (choose a 3 (choose (not b) 5 0)) (choose a 3 (choose (not b) 5 others))
      go true b k = refl
      go false false k = refl
      go false true k = absurd (k refl)

pub screen_number_passed : {n : ℕ} {s : Screen} → screen_number n s ≡ 0 → ScreenPasses n s
unfolding screen_number
screen_number_passed {n} {s} h = (screen_passed n s 0 h).0

-- it is 0, 3 or 5
pub screen-numbers : (n : ℕ) (s : Screen) → (screen_number n s ≡ 0) ⊎ (screen_number n s ≡ 3) ⊎ (screen_number n s ≡ 5)
unfolding screen_number
screen-numbers n s = go (too_long n) (sound n s)
  where
    number : Bool → Bool → ℕ
    number a b = choose a 3 (choose (not b) 5 0)

    go : (a b : Bool) → (number a b ≡ 0) ⊎ (number a b ≡ 3) ⊎ (number a b ≡ 5)
    go true b = inr (inl refl)
    go false true = inl refl
    go false false = inr (inr refl)
