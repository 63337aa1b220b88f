-- A row that is not refused: in either area its half-words follow one another, and all of them are in the RAM.
use Prim.Native.Nat.{ℕ, ◌+◌, ◌*◌, ◌≤◌}
use mathlib.Core.Path.{◌≡◌, refl}
use mathlib.Core.Bool.{Bool, true, false, not}
use native.Mathlib.Omega.{arith}
use lib.Dec.{ltb}
use borrow.Author.Tests.{ltb-true}
use Rattle.rules.specs.declared.Screen.{Screen}
use Rattle.rules.specs.Folds.{choose}
use Rattle.rules.specs.Sizes.{width, height, Area}
use Rattle.rules.specs.Numbers.{row_number}
use Rattle.rules.proofs.Refusals.{ScreenPasses, screen_passed}
use Rattle.rules.proofs.Strips.{sound_facts, RowByRow, row_fits}

pub record RowLies (at : Area) (n : ℕ) (s : Screen) (row : ℕ) : Type 0 where
  pub follow : (x : ℕ) → at s x row ≡ at s 0 row + x * 2
  pub fits : at s 0 row + 2 * width s.size ≤ n

pub accepted-row : {at : Area} → RowByRow at → (n : ℕ) (s : Screen) (row : ℕ) → row_number n s row ≡ 0 → RowLies at n s row
unfolding row_number
accepted-row {at} a n s row e = go (ltb row (height s.size)) refl passed.1
  where
    passed : ScreenPasses n s × (◌≡◌ {A = ℕ} (choose (not (ltb row (height s.size))) 8 0) 0)
    passed = screen_passed n s _ e

    go : (b : Bool) → ltb row (height s.size) ≡ b → ◌≡◌ {A = ℕ} (choose (not b) 8 0) 0 → RowLies at n s row
    go false q k = absurd (omega arith)
    go true q k = record {
      follow = λ x. a.in_row s x row;
      fits = row_fits a (sound_facts passed.0.is_sound) (ltb-true row (height s.size) q);
    }
