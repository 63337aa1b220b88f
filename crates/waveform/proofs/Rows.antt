-- Where a sample of 16 bits stands: the row is rounded down, a larger sample stands no lower, and every one stands on the screen.
use Prim.Native.Nat.{ℕ, ◌*◌, ◌/◌, ◌≤◌, ◌<◌}
use mathlib.Core.Path.{◌≡◌, sym, subst}
use mathlib.Core.List.{List, [], ◌∷◌}
use native.Mathlib.Nat.{mul-le-mul_right}
use native.Mathlib.Omega.{arith}
use lib.IntN.{ℤ, pos, negsuc, nat_abs, ◌-ℤ◌, ◌*ℤ◌}
use lib.Signed.{◌≤ℤ◌}
use Rattle.ints.specs.Rounding.{RoundsDown}
use Rattle.ints.proofs.Poly.{var, con, ◌⊖◌}
use Rattle.ints.proofs.Rounding.{shr_z_rounds_down}
use Rattle.ints.proofs.Order.{le_to, eq_to, natural, sub_nonneg, ≤ℤ-trans}
use Rattle.waveform.specs.Panel.{row_of}

-- how far it stands below the top of the scale, as a natural number
down : (v : ℤ) → v ≤ℤ pos 32767 → pos 32767 -ℤ v ≡ pos (nat_abs (pos 32767 -ℤ v))
down v h = natural (sub_nonneg h)

pub row_rounds_down : (h : ℕ) (v : ℤ) → v ≤ℤ pos 32767 → RoundsDown ((pos 32767 -ℤ v) *ℤ pos h) (pos 65536) (pos (row_of h v))
unfolding row_of
row_rounds_down h v k =
    subst (λ z. RoundsDown (z *ℤ pos h) (pos 65536) (pos (nat_abs (pos 32767 -ℤ v) * h / 65536))) (sym (down v k))
    (shr_z_rounds_down (pos (nat_abs (pos 32767 -ℤ v) * h)) 65536 (omega arith))

module _ {v : ℤ} (h : v ≤ℤ pos 32767) where
  abbrev ρ : List ℤ
  ρ = v ∷ pos (nat_abs (pos 32767 -ℤ v)) ∷ []

  below_top : negsuc 32767 ≤ℤ v → nat_abs (pos 32767 -ℤ v) ≤ 65535
  below_top k =
      omega (
        arith,
        eq_to ρ (con (pos 32767) ⊖ var 0) (var 1) (down v h),
        le_to ρ (con (negsuc 32767)) (var 0) k,
      )

  -- every sample has its row
  pub row_on_screen : (n : ℕ) → negsuc 32767 ≤ℤ v → 0 < n → row_of n v < n
  unfolding row_of
  row_on_screen n k l = omega (arith, mul-le-mul_right n (below_top k))

-- a larger sample stands no lower
pub row_order : (n : ℕ) {v u : ℤ} → u ≤ℤ v → v ≤ℤ pos 32767 → row_of n v ≤ row_of n u
unfolding row_of
row_order n {v} {u} h k =
    let l : u ≤ℤ pos 32767 = ≤ℤ-trans h k in
    let σ : List ℤ = v ∷ u ∷ pos (nat_abs (pos 32767 -ℤ v)) ∷ pos (nat_abs (pos 32767 -ℤ u)) ∷ [] in
    let d : nat_abs (pos 32767 -ℤ v) ≤ nat_abs (pos 32767 -ℤ u) =
    omega (
      arith,
      eq_to σ (con (pos 32767) ⊖ var 0) (var 2) (down v k),
      eq_to σ (con (pos 32767) ⊖ var 1) (var 3) (down u l),
      le_to σ (var 1) (var 0) h,
    ) in
    omega (arith, mul-le-mul_right n d)
