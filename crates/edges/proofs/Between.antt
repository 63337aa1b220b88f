-- A number between two others, as the machine tests it: the lower end first, and the upper only where that holds. Once over the width and
-- both ends.
use mathlib.Core.Path.{◌≡◌, sym, ◌∙◌, ap}
use mathlib.Core.Bool.{Bool, true, false, ◌&&◌}
use lib.IntN.{ℤ}
use lib.Signed.{le_z}
use mir.Syntax.{Width}
use mir.Val.{SFits, to_z, of_z}
use mir.ValLaws.{to_z-of_z}

module _ (w : Width) (low high : ℤ) {z : ℤ} (f : SFits w z) where
  lower : {b : Bool} → le_z low (to_z w (of_z w z)) ≡ b → le_z low z ≡ b
  lower h = sym (ap (le_z low) (to_z-of_z w z f)) ∙ h

  pub above_lower : le_z low (to_z w (of_z w z)) ≡ true → le_z (to_z w (of_z w z)) high ≡ le_z low z && le_z z high
  above_lower h = ap (λ (y : ℤ). le_z y high) (to_z-of_z w z f) ∙ sym (ap (λ (b : Bool). b && le_z z high) (lower h))

  pub below-lower : le_z low (to_z w (of_z w z)) ≡ false → le_z low (to_z w (of_z w z)) ≡ le_z low z && le_z z high
  below-lower h = h ∙ sym (ap (λ (b : Bool). b && le_z z high) (lower h))
