-- The same value at each vertex gives a plane without steps, above the exact value by 1,119 units at every pixel: the bound is attained.
use Prim.Native.Nat.{ℕ}
use mathlib.Core.Path.{◌≡◌, sym, ◌∙◌, ap}
use mathlib.Core.List.{List, [], ◌∷◌}
use native.Mathlib.Omega.{arith}
use lib.IntN.{ℤ, pos, ◌+ℤ◌, ◌*ℤ◌}
use lib.Signed.{◌<ℤ◌, ≤ℤ_refl}
use Rattle.ints.proofs.Poly.{var, con, ◌⊕◌, ◌⊗◌, solve}
use Rattle.ints.proofs.Order.{lt_of, lt_to}
use Rattle.rules.specs.declared.Plane.{Plane}
use Rattle.rules.specs.declared.Vertices.{Vertices}
use Rattle.rules.specs.Triangles.{Point, sample, doubled_area}
use Rattle.interpolation.specs.Interpolation.{numerator_a, numerator_b, numerator_c, numerator, in_units, raise, rounded_down}
use Rattle.interpolation.specs.Interpolation.{through_a, through_b, through_c, plane_through}
use Rattle.interpolation.specs.Nearness.{plane_times, exact_times, flat}
use Rattle.interpolation.proofs.Cramer.{area_e, numerator_ae, numerator_be, numerator_e}
use Rattle.interpolation.proofs.Rounding.{rounded_only}

-- a multiple of the divisor loses nothing
exactly : {d : ℤ} (q : ℤ) → pos 0 <ℤ d → rounded_down (d *ℤ q) d ≡ q
exactly {d} q h =
    let ρ : List ℤ = (d *ℤ q) ∷ d ∷ [] in
    sym (rounded_only h
    (record {
      not_above = ≤ℤ_refl (d *ℤ q);
      greatest = lt_of ρ (var 0) (var 0 ⊕ var 1) (omega (arith, lt_to ρ (con (pos 0)) (var 1) h));
    }))

module _ (v : Vertices) (n : ℤ) where
  abbrev ρ : Point → List ℤ
  ρ p = v.x1 ∷ v.y1 ∷ v.x2 ∷ v.y2 ∷ v.x3 ∷ v.y3 ∷ n ∷ p.px ∷ p.py ∷ []

  flat-numerator : (p : Point) → in_units (numerator v (flat n) p) ≡ doubled_area v *ℤ in_units n
  unfolding numerator numerator_a numerator_b numerator_c doubled_area
  flat-numerator p =
      solve (ρ p) (con (pos 65536) ⊗ numerator_e (var 6) (var 6) (var 6) (var 7) (var 8)) (area_e ⊗ (con (pos 65536) ⊗ var 6)) tt

  flat-across : in_units (pos 8 *ℤ numerator_a v (flat n)) ≡ doubled_area v *ℤ pos 0
  unfolding numerator_a doubled_area
  flat-across = solve (ρ (sample 0 0)) (con (pos 65536) ⊗ (con (pos 8) ⊗ numerator_ae (var 6) (var 6) (var 6))) (area_e ⊗ con (pos 0)) tt

  flat-down : in_units (pos 8 *ℤ numerator_b v (flat n)) ≡ doubled_area v *ℤ pos 0
  unfolding numerator_b doubled_area
  flat-down = solve (ρ (sample 0 0)) (con (pos 65536) ⊗ (con (pos 8) ⊗ numerator_be (var 6) (var 6) (var 6))) (area_e ⊗ con (pos 0)) tt

  module _ (h : pos 0 <ℤ doubled_area v) where
    divided : {m q : ℤ} → m ≡ doubled_area v *ℤ q → rounded_down m (doubled_area v) ≡ q
    divided {m} {q} e = ap (λ (z : ℤ). rounded_down z (doubled_area v)) e ∙ exactly q h

    pub flat-plane : plane_through v (flat n) ≡ record { c = in_units n +ℤ raise; a = pos 0; b = pos 0 }
    unfolding plane_through through_a through_b through_c
    flat-plane = λ i. record {
      c = divided (flat-numerator (sample 0 0)) i +ℤ raise;
      a = divided flat-across i;
      b = divided flat-down i;
    }

    pub flat_attains : (x y : ℕ)
        → plane_times v (plane_through v (flat n)) x y ≡ exact_times v (flat n) x y +ℤ doubled_area v *ℤ pos 1119
    flat_attains x y =
        ap (λ (p : Plane). plane_times v p x y) flat-plane
        ∙ solve (doubled_area v ∷ n ∷ pos x ∷ pos y ∷ [])
        (var 0 ⊗ (con (pos 65536) ⊗ var 1 ⊕ con raise ⊕ con (pos 0) ⊗ var 2 ⊕ con (pos 0) ⊗ var 3))
        (var 0 ⊗ (con (pos 65536) ⊗ var 1) ⊕ var 0 ⊗ con raise)
        tt
        ∙ ap (λ (z : ℤ). z +ℤ doubled_area v *ℤ raise) (sym (flat-numerator (sample x y)))
