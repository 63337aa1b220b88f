-- "For d from 0 to the length, the result equals offset 0 on the recording without its first d samples": number, count and memory, for
-- every accepted d from 0 on. The two requests are accepted alike, and each column has the same samples.
use Prim.Native.Nat.{ℕ, ◌≤◌}
use mathlib.Core.Path.{◌≡◌, refl, sym, ◌∙◌, ap, ap₂}
use mathlib.Core.Bool.{not, ◌&&◌}
use mathlib.Core.List.{List}
use native.Mathlib.Omega.{arith}
use lib.ListN.{length, drop, length-drop}
use lib.IntN.{ℤ, pos}
use lib.Signed.{◌≤ℤ◌}
use borrow.Author.Tests.{le-leb}
use Rattle.ints.proofs.Order.{≤ℤ-trans, pos-le}
use Rattle.rules.specs.declared.Screen.{Screen}
use Rattle.rules.specs.Folds.{choose}
use Rattle.rules.specs.Sizes.{height}
use Rattle.rules.specs.Numbers.{after_screen}
use Rattle.waveform.specs.declared.Panelled.{Panelled}
use Rattle.waveform.specs.Panel.{Waveform, waveform, fills, in_panel, good_per_column, good_waveform}
use Rattle.waveform.specs.Panel.{panel_number, number_of, Panels}
use Rattle.waveform.proofs.Columns.{taken-offset}
use Rattle.waveform.proofs.Ranges.{good_facts}
use Rattle.waveform.proofs.Numbers.{panel_accepted}
use Rattle.waveform.proofs.Unique.{panels_unique, panels_alike}

module _ (samples : List ℤ) (n : ℤ) (k colour : ℕ) where
  abbrev whole : Waveform
  whole = waveform samples n (pos k) colour

  abbrev rest : Waveform
  rest = waveform (drop k samples) n (pos 0) colour

  -- accepted alike
  module _ (count : length samples ≤ 40960) (most : k ≤ 2047) where
    good_alike : good_waveform (length samples) n (pos k) ≡ good_waveform (length (drop k samples)) n (pos 0)
    unfolding good_waveform
    good_alike =
        let c : length (drop k samples) ≤ 40960 = omega (arith, length-drop k samples) in
        ap₂ (λ p q. p && good_per_column n && q)
        (le-leb (length samples) 40960 count ∙ sym (le-leb (length (drop k samples)) 40960 c))
        (le-leb k 2047 most)

    number_alike : (ram_length : ℕ) (s : Screen) → number_of ram_length s whole ≡ number_of ram_length s rest
    unfolding panel_number
    number_alike ram_length s = ap (λ b. after_screen ram_length s (choose (not b) 10 0)) good_alike

    module _ (ram_length : ℕ) (s : Screen) (e : number_of ram_length s whole ≡ 0) where
      some : pos 0 ≤ℤ n
      some =
          ≤ℤ-trans {b = pos 1} (pos-le (omega arith))
          (good_facts ((panel_accepted ram_length s (length samples) n (pos k)).0 e).1).n_least

      -- each column has the same samples
      panel_alike : (x y : ℕ) → in_panel whole s x y ≡ in_panel rest s x y
      unfolding in_panel
      panel_alike x y = ap (λ l. fills (height s.size) l y) (taken-offset n x k some samples)

    pub offset_drops : {m after other : List ℕ} {s : Screen} {a b : Panelled}
        → Panels m s whole a after
        → Panels m s rest b other
        → (a ≡ b) × (after ≡ other)
    offset_drops {m} {s = s} p q =
        panels_unique p (panels_alike rest whole refl (number_alike (length m) s) (panel_alike (length m) s) q)
