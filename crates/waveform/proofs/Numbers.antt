-- The panel's number: the screen's; where that is 0, it is 10 exactly if the count, n or d is out of range.
use Prim.Native.Nat.{ℕ}
use mathlib.Core.Path.{◌≡◌, refl, sym, ◌∙◌, ap}
use mathlib.Core.Logic.{◌≢◌, ◌⊎◌, inl, inr, ◌↔◌}
use mathlib.Core.Bool.{Bool, true, false, not}
use native.Mathlib.Omega.{arith}
use native.Mathlib.Decide.{ℕ_discrete}
use lib.IntN.{ℤ}
use Rattle.rules.specs.declared.Screen.{Screen}
use Rattle.rules.specs.Folds.{choose}
use Rattle.rules.specs.Numbers.{screen_number}
use Rattle.rules.proofs.Refusals.{screen_refuses, others_follow, screen_number_passed, screen-numbers}
use Rattle.waveform.specs.Panel.{good_waveform, panel_number}

module _ (ram_length : ℕ) (s : Screen) (count : ℕ) (n d : ℤ) where
  pub screen-first : screen_number ram_length s ≢ 0 → panel_number ram_length s count n d ≡ screen_number ram_length s
  unfolding panel_number
  screen-first h = sym (screen_refuses ram_length s _ h)

  pub ten_after : screen_number ram_length s ≡ 0 → panel_number ram_length s count n d ≡ choose (good_waveform count n d) 0 10
  unfolding panel_number
  ten_after e = others_follow ram_length s _ (screen_number_passed e) ∙ turned (good_waveform count n d)
    where
      turned : (b : Bool) → choose (not b) 10 0 ≡ choose {A = ℕ} b 0 10
      turned true = refl
      turned false = refl

  pub panel_accepted : (panel_number ram_length s count n d ≡ 0) ↔ ((screen_number ram_length s ≡ 0) × (good_waveform count n d ≡ true))
  panel_accepted = (λ e. go e (ℕ_discrete (screen_number ram_length s) 0), λ h. ten_after h.0 ∙ ap (λ b. choose b 0 10) h.1)
    where
      good : (b : Bool) → ◌≡◌ {A = ℕ} (choose b 0 10) 0 → b ≡ true
      good true q = refl
      good false q = absurd (omega arith)

      go : panel_number ram_length s count n d ≡ 0 → Dec (screen_number ram_length s ≡ 0)
          → (screen_number ram_length s ≡ 0) × (good_waveform count n d ≡ true)
      go e (yes z) = (z, good (good_waveform count n d) (sym (ten_after z) ∙ e))
      go e (no z) = absurd (z (sym (screen-first z) ∙ e))

  -- "for a bad sample count, n or d, after 3 and 5", and never otherwise
  pub ten_exactly : (panel_number ram_length s count n d ≡ 10) ↔ ((screen_number ram_length s ≡ 0) × (good_waveform count n d ≡ false))
  ten_exactly = (λ e. go e (ℕ_discrete (screen_number ram_length s) 0), λ h. ten_after h.0 ∙ ap (λ b. choose b 0 10) h.1)
    where
      no_ten : {i : ℕ} → i ≡ 10 → (i ≡ 0) ⊎ (i ≡ 3) ⊎ (i ≡ 5) → ⊥
      no_ten e (inl z) = omega arith
      no_ten e (inr (inl z)) = omega arith
      no_ten e (inr (inr z)) = omega arith

      bad : (b : Bool) → ◌≡◌ {A = ℕ} (choose b 0 10) 10 → b ≡ false
      bad true q = absurd (omega arith)
      bad false q = refl

      go : panel_number ram_length s count n d ≡ 10 → Dec (screen_number ram_length s ≡ 0)
          → (screen_number ram_length s ≡ 0) × (good_waveform count n d ≡ false)
      go e (yes z) = (z, bad (good_waveform count n d) (sym (ten_after z) ∙ e))
      go e (no z) = absurd (no_ten (sym (screen-first z) ∙ e) (screen-numbers ram_length s))
