-- When a triangle is accepted: number 7 is never answered, so three tests decide: the RAM's length, the screen and the vertices.
use Prim.Native.Nat.{ℕ}
use mathlib.Core.Path.{◌≡◌, refl, sym, ◌∙◌, ap}
use mathlib.Core.Logic.{◌≢◌, ◌↔◌}
use mathlib.Core.Bool.{Bool, true, false, not}
use native.Mathlib.Omega.{arith}
use native.Mathlib.Decide.{ℕ_discrete}
use lib.Dec.{ltb}
use borrow.Author.Tests.{lt-ltb}
use Rattle.rules.specs.declared.Screen.{Screen}
use Rattle.rules.specs.declared.Triangle.{Triangle}
use Rattle.rules.specs.Folds.{choose}
use Rattle.rules.specs.Sizes.{width, height, sound}
use Rattle.rules.specs.Numbers.{too_long, after_screen, vertices_in_range, triangle_too_large, screen_number, row_number, triangle_number}
use Rattle.rules.proofs.Refusals.{screen_number_passed, screen_refuses, others_follow}
use Rattle.rules.proofs.Pixels.{sound_facts, width-le, height-le}
use Rattle.edges.proofs.Large.{triangle_never_too_large}

-- a screen's number

pub screen-accepted : (n : ℕ) (s : Screen) → (screen_number n s ≡ 0) ↔ ((too_long n ≡ false) × (sound n s ≡ true))
unfolding screen_number
screen-accepted n s = (
  λ e. let p = screen_number_passed e in (p.fits, p.is_sound),
  λ h. others_follow n s 0 (record { fits = h.0; is_sound = h.1 }),
)

-- row 0 is a row of every sound screen
pub first_row_number : (n : ℕ) (s : Screen) → row_number n s 0 ≡ screen_number n s
unfolding row_number screen_number
first_row_number n s = go (too_long n) (sound n s) refl
  where
    numbered : Bool → Bool → ℕ → ℕ
    numbered a b others = choose a 3 (choose (not b) 5 others)

    go : (a b : Bool) → sound n s ≡ b → numbered a b (choose (not (ltb 0 (height s.size))) 8 0) ≡ numbered a b 0
    go true b e = refl
    go false false e = refl
    go false true e = rw (lt-ltb 0 (height s.size) (sound_facts e).height_low)

-- a triangle's number is the screen's; where that is 0, it is 0 or 6

module _ (n : ℕ) (s : Screen) (t : Triangle) where
  pub triangle_refused : screen_number n s ≢ 0 → triangle_number n s t ≡ screen_number n s
  unfolding triangle_number
  triangle_refused h = sym (screen_refuses n s _ h)

  pub triangle-number : screen_number n s ≡ 0 → triangle_number n s t ≡ choose (vertices_in_range t.vertices) 0 6
  unfolding triangle_number
  triangle-number e = go (vertices_in_range t.vertices) refl
    where
      h : (too_long n ≡ false) × (sound n s ≡ true)
      h = (screen-accepted n s).0 e

      large : Bool
      large = triangle_too_large t.vertices (width s.size) (height s.size)

      go : (b : Bool) → vertices_in_range t.vertices ≡ b
          → after_screen n s (choose (not b) 6 (choose large 7 0)) ≡ choose b 0 6
      go true r =
          let f = sound_facts h.1 in
          rw (
            h.0,
            h.1,
            triangle_never_too_large t.vertices r (width s.size) (height s.size) (width-le f) (omega (arith, height-le f)),
          )
      go false r = rw (h.0, h.1)

  pub triangle-accepted : (triangle_number n s t ≡ 0)
      ↔ ((too_long n ≡ false) × (sound n s ≡ true) × (vertices_in_range t.vertices ≡ true))
  triangle-accepted = (
    λ e. go e (ℕ_discrete (screen_number n s) 0),
    λ h. triangle-number ((screen-accepted n s).1 (h.0, h.1)) ∙ ap (λ b. choose b 0 6) h.2,
  )
    where
      in_range : (b : Bool) → ◌≡◌ {A = ℕ} (choose b 0 6) 0 → b ≡ true
      in_range true q = refl
      in_range false q = absurd (omega arith)

      go : triangle_number n s t ≡ 0
          → Dec (screen_number n s ≡ 0)
          → (too_long n ≡ false) × (sound n s ≡ true) × (vertices_in_range t.vertices ≡ true)
      go e (yes z) =
          let h = (screen-accepted n s).0 z in
          (h.0, h.1, in_range (vertices_in_range t.vertices) (sym (triangle-number z) ∙ e))
      go e (no z) = absurd (z (sym (triangle_refused z) ∙ e))
