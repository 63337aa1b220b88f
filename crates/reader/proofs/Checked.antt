-- `row_check`: the screen's number where that is not 0; else the row decides, 8 or 0.
use Prim.Native.Nat.{ℕ, ◌<◌, ◌≤◌}
use mathlib.Core.Bool.{Bool, true, false, not}
use mathlib.Core.Path.{◌≡◌, sym, ◌∙◌, ap, subst}
use mathlib.Core.Logic.{◌≢◌}
use lib.Dec.{ltb}
use borrow.Author.Tests.{lt-ltb, le-ltb}
use Rattle.rules.specs.declared.Screen.{Screen}
use Rattle.rules.specs.Folds.{choose}
use Rattle.rules.specs.Sizes.{height}
use Rattle.rules.specs.Numbers.{screen_number, row_number}
use Rattle.rules.proofs.Refusals.{screen_refuses, others_follow, screen_number_passed}
use Rattle.reader.specs.Rows.{Checks}

module _ (n : ℕ) (s : Screen) (row : ℕ) where
  pub screen_decides : {k : ℕ} → k ≡ screen_number n s → k ≢ 0 → Checks n s row k
  unfolding row_number
  screen_decides e h = record { answers = e ∙ screen_refuses _ _ _ (λ z. h (e ∙ z)) }

  -- where the screen passes, the row's test decides
  row_decides : {k : ℕ} → k ≡ screen_number n s → k ≡ 0 → (b : Bool) → ltb row (height s.size) ≡ b
      → ◌≡◌ {A = ℕ} (choose (not b) 8 0) (row_number n s row)
  unfolding row_number
  row_decides e z b t =
      sym (others_follow n s (choose (not (ltb row (height s.size))) 8 0) (screen_number_passed (sym e ∙ z))
      ∙ ap (λ (t : Bool). choose (not t) 8 0) t)

  pub row_passes : {k h : ℕ} → k ≡ screen_number n s → k ≡ 0 → h ≡ height s.size → row < h → Checks n s row 0
  row_passes e z i l =
      record { answers = row_decides e z true (lt-ltb row (height s.size) (subst (λ (m : ℕ). row < m) i l)) }

  pub row_refused : {k h : ℕ} → k ≡ screen_number n s → k ≡ 0 → h ≡ height s.size → h ≤ row → Checks n s row 8
  row_refused e z i l =
      record { answers = row_decides e z false (le-ltb row (height s.size) (subst (λ (m : ℕ). m ≤ row) i l)) }
