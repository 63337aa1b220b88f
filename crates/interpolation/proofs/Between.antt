-- At a pixel that the triangle covers the exact value lies between the values at the vertices: it is their mean, weighted by edge values
-- that are not below zero and whose sum is the doubled area. So the plane's value is above the least of the three and at most 1,119 units
-- above the greatest; it is the word that the drawing takes, and its top half is between them.
use Prim.Native.Nat.{ℕ, ◌+◌, ◌*◌, ◌≤◌, ◌<◌}
use mathlib.Core.Path.{◌≡◌, sym, ◌∙◌, ap, subst}
use mathlib.Core.Bool.{true}
use mathlib.Core.List.{List, [], ◌∷◌}
use native.Mathlib.Nat.{mod-eq_of_lt}
use native.Mathlib.Omega.{arith}
use lib.IntN.{ℤ, pos, negsuc, ◌+ℤ◌, ◌*ℤ◌}
use lib.Signed.{◌≤ℤ◌, ◌<ℤ◌}
use Rattle.ints.specs.Modulo.{mod32}
use Rattle.ints.proofs.Poly.{var, con, ◌⊕◌, ◌⊖◌, ◌⊗◌, solve}
use Rattle.ints.proofs.Order.{is_self, is_pos, is_lt, lt-is, le_is, eq_is, up, dn, le_of, le_to, lt_of, lt_to}
use Rattle.ints.proofs.Order.{sub_nonneg, mul_nonneg, cancel_lt, cancel_le}
use Rattle.ints.proofs.Modulo.{mod32-pos}
use Rattle.rules.specs.declared.Plane.{Plane}
use Rattle.rules.specs.declared.Vertices.{Vertices}
use Rattle.rules.specs.Triangles.{Point, sample, edge1, edge2, edge3, edge_value, inside_all, doubled_area, plane_at, top_half}
use Rattle.rules.proofs.Closing.{no_value_below}
use Rattle.order.proofs.Area.{values-sum}
use Rattle.interpolation.specs.declared.Values.{Values}
use Rattle.interpolation.specs.Interpolation.{numerator, in_units}
use Rattle.interpolation.specs.Nearness.{value_at, plane_times, Near, From}
use Rattle.interpolation.proofs.Cramer.{weighted}

-- a mean of three numbers, weighted by three that are not below zero

module _ {a b c u v w l : ℤ} (hu : pos 0 ≤ℤ u) (hv : pos 0 ≤ℤ v) (hw : pos 0 ≤ℤ w) where
  mean_least : l ≤ℤ a → l ≤ℤ b → l ≤ℤ c → ((u +ℤ v +ℤ w) *ℤ l) ≤ℤ (a *ℤ u +ℤ b *ℤ v +ℤ c *ℤ w)
  mean_least ha hb hc =
      let ρ : List ℤ = a ∷ b ∷ c ∷ u ∷ v ∷ w ∷ l ∷ [] in
      le_of ρ ((var 3 ⊕ var 4 ⊕ var 5) ⊗ var 6) (var 0 ⊗ var 3 ⊕ var 1 ⊗ var 4 ⊕ var 2 ⊗ var 5)
      (omega (
        arith,
        le_to ρ (con (pos 0)) ((var 0 ⊖ var 6) ⊗ var 3) (mul_nonneg (sub_nonneg ha) hu),
        le_to ρ (con (pos 0)) ((var 1 ⊖ var 6) ⊗ var 4) (mul_nonneg (sub_nonneg hb) hv),
        le_to ρ (con (pos 0)) ((var 2 ⊖ var 6) ⊗ var 5) (mul_nonneg (sub_nonneg hc) hw),
      ))

  mean_greatest : a ≤ℤ l → b ≤ℤ l → c ≤ℤ l → (a *ℤ u +ℤ b *ℤ v +ℤ c *ℤ w) ≤ℤ ((u +ℤ v +ℤ w) *ℤ l)
  mean_greatest ha hb hc =
      let ρ : List ℤ = a ∷ b ∷ c ∷ u ∷ v ∷ w ∷ l ∷ [] in
      le_of ρ (var 0 ⊗ var 3 ⊕ var 1 ⊗ var 4 ⊕ var 2 ⊗ var 5) ((var 3 ⊕ var 4 ⊕ var 5) ⊗ var 6)
      (omega (
        arith,
        le_to ρ (con (pos 0)) ((var 6 ⊖ var 0) ⊗ var 3) (mul_nonneg (sub_nonneg ha) hu),
        le_to ρ (con (pos 0)) ((var 6 ⊖ var 1) ⊗ var 4) (mul_nonneg (sub_nonneg hb) hv),
        le_to ρ (con (pos 0)) ((var 6 ⊖ var 2) ⊗ var 5) (mul_nonneg (sub_nonneg hc) hw),
      ))

-- the exact value's numerator, at a point inside all three edges

module _ (v : Vertices) (p : Point) where
  abbrev u1 : ℤ
  u1 = edge_value (edge2 v) p

  abbrev u2 : ℤ
  u2 = edge_value (edge3 v) p

  abbrev u3 : ℤ
  u3 = edge_value (edge1 v) p

  area : u1 +ℤ u2 +ℤ u3 ≡ doubled_area v
  area = solve (u1 ∷ u2 ∷ u3 ∷ []) (var 0 ⊕ var 1 ⊕ var 2) (var 2 ⊕ var 0 ⊕ var 1) tt ∙ values-sum v p

module _ (v : Vertices) (r : Values) (p : Point) (i : inside_all v p ≡ true) {l : ℤ} where
  pub numerator_least : l ≤ℤ r.r1 → l ≤ℤ r.r2 → l ≤ℤ r.r3 → (doubled_area v *ℤ l) ≤ℤ numerator v r p
  numerator_least h1 h2 h3 =
      let (w3, w1, w2) = no_value_below v p i in
      subst (λ (z : ℤ). (z *ℤ l) ≤ℤ numerator v r p) (area v p)
      (subst (λ (z : ℤ). ((u1 v p +ℤ u2 v p +ℤ u3 v p) *ℤ l) ≤ℤ z) (sym (weighted v r p)) (mean_least w1 w2 w3 h1 h2 h3))

  pub numerator-greatest : r.r1 ≤ℤ l → r.r2 ≤ℤ l → r.r3 ≤ℤ l → numerator v r p ≤ℤ (doubled_area v *ℤ l)
  numerator-greatest h1 h2 h3 =
      let (w3, w1, w2) = no_value_below v p i in
      subst (λ (z : ℤ). numerator v r p ≤ℤ (z *ℤ l)) (area v p)
      (subst (λ (z : ℤ). z ≤ℤ ((u1 v p +ℤ u2 v p +ℤ u3 v p) *ℤ l)) (sym (weighted v r p)) (mean_greatest w1 w2 w3 h1 h2 h3))

-- a plane near the exact value, at a pixel inside all three edges

module _
    {v : Vertices}
    {r : Values}
    {p : Plane}
    {x y : ℕ}
    (h : pos 0 <ℤ doubled_area v)
    (near : Near v r p x y)
    (i : inside_all v (sample x y) ≡ true)
    {least greatest : ℤ}
    (f : From least greatest r)
  where
    pub above_least : in_units least <ℤ value_at p x y
    above_least =
        let ρ : List ℤ = doubled_area v ∷ least ∷ numerator v r (sample x y) ∷ plane_times v p x y ∷ [] in
        let n = le_to ρ (var 0 ⊗ var 1) (var 2) (numerator_least v r (sample x y) i f.first.0 f.second.0 f.third.0) in
        let a = lt_to ρ (con (pos 65536) ⊗ var 2) (var 3) near.above in
        cancel_lt h (lt_of ρ (var 0 ⊗ (con (pos 65536) ⊗ var 1)) (var 3) (omega (arith, n, a)))

    pub at_most_greatest : value_at p x y ≤ℤ (in_units greatest +ℤ pos 1119)
    at_most_greatest =
        let ρ : List ℤ = doubled_area v ∷ greatest ∷ numerator v r (sample x y) ∷ plane_times v p x y ∷ [] in
        let n = le_to ρ (var 2) (var 0 ⊗ var 1) (numerator-greatest v r (sample x y) i f.first.1 f.second.1 f.third.1) in
        let a = le_to ρ (var 3) (con (pos 65536) ⊗ var 2 ⊕ var 0 ⊗ con (pos 1119)) near.at_most in
        cancel_le h
        (le_of ρ (var 3) (var 0 ⊗ (con (pos 65536) ⊗ var 1 ⊕ con (pos 1119))) (omega (arith, n, a)))

-- what the drawing takes of it

word : (z : ℤ) → pos 0 <ℤ z → z <ℤ pos 2147483648 → pos (mod32 z) ≡ z
word (pos n) l u =
    ap pos (mod32-pos n ∙ mod-eq_of_lt (omega (arith, lt-is (is_pos n) (is_pos 2147483648) u)))
word (negsuc n) l u = absurd l.lt

module _
    {v : Vertices}
    {r : Values}
    {p : Plane}
    {x y : ℕ}
    (h : pos 0 <ℤ doubled_area v)
    (near : Near v r p x y)
    (i : inside_all v (sample x y) ≡ true)
  where
    abbrev z : ℤ
    z = value_at p x y

    module _ {least greatest : ℕ} (f : From (pos least) (pos greatest) r) where
      low : 65536 * least + dn z < up z + 0
      low = lt-is (is_pos (65536 * least)) (is_self z) (above_least h near i f)

      high : up z + 0 ≤ 65536 * greatest + 1119 + dn z
      high = le_is (is_self z) (is_pos (65536 * greatest + 1119)) (at_most_greatest h near i f)

    -- where the values are in range
    pub plane_word : From (pos 0) (pos 32767) r → pos (plane_at p x y) ≡ value_at p x y
    unfolding plane_at
    plane_word f =
        word z (is_lt (is_pos 0) (is_self z) (omega (arith, low f))) (is_lt (is_self z) (is_pos 2147483648) (omega (arith, high f)))

    module _ {least greatest : ℕ} (f : From (pos least) (pos greatest) r) (w : pos (plane_at p x y) ≡ value_at p x y) where
      plane-most : plane_at p x y ≤ 65536 * greatest + 1119
      plane-most = omega (arith, high f, eq_is (is_pos (plane_at p x y)) (is_self z) w)

      plane_least : 65536 * least < plane_at p x y
      plane_least = omega (arith, low f, eq_is (is_pos (plane_at p x y)) (is_self z) w)

      pub top_half_between : (least ≤ top_half (plane_at p x y)) × (top_half (plane_at p x y) ≤ greatest)
      unfolding top_half
      top_half_between = (omega (arith, plane_least), omega (arith, plane-most))
