-- An edge's points by the signs of its value and steps: where it keeps its zeros, those with no value below 0; where it loses them, those
-- with a value above 0. And where a value is one coordinate's distance times a length, it is a test of that coordinate.
use Prim.Native.Nat.{zero, suc}
use mathlib.Core.Path.{◌≡◌, refl, sym, ◌∙◌, subst}
use mathlib.Core.Logic.{◌⊎◌, inl, inr, ◌↔◌}
use mathlib.Core.Bool.{Bool, true, false, ◌&&◌, ◌||◌, false≢true}
use mathlib.Core.List.{List, [], ◌∷◌}
use native.Mathlib.Omega.{arith}
use lib.Dec.{lt→ltb}
use lib.IntN.{ℤ, pos, negsuc, ◌-ℤ◌, ◌*ℤ◌}
use lib.Signed.{le_z, lt_z, ◌≤ℤ◌, ◌<ℤ◌, lt_z_yes}
use Rattle.ints.proofs.Poly.{var, con, ◌⊖◌, ◌⊗◌}
use Rattle.ints.proofs.Order.{le_to, lt_to, lt_of, sub_nonneg, <ℤ→≤ℤ, mul_nonneg, mul-pos, le_z_false, lt_z_false}
use Rattle.rules.specs.Triangles.{Point, Edge, dx, dy, edge_value, positive, is_zero, negative, inside}
use Rattle.rules.proofs.Closing.{value-le}
use Rattle.order.proofs.Sides.{within, inside_is}

abbrev pub Keeps : ℤ → ℤ → Type 0
Keeps across down = (down <ℤ pos 0) ⊎ ((down ≡ pos 0) × (pos 0 <ℤ across))

abbrev pub Loses : ℤ → ℤ → Type 0
Loses across down = (pos 0 <ℤ down) ⊎ ((down ≡ pos 0) × (across <ℤ pos 0))

above : (v u w : ℤ) → pos 0 <ℤ v → within v u w ≡ true
above (pos zero) u w h = absurd h.lt
above (pos (suc n)) u w h = refl
above (negsuc n) u w h = absurd h.lt

not_below : (v u w : ℤ) → Keeps u w → pos 0 ≤ℤ v → within v u w ≡ true
not_below (pos (suc n)) u w k h = refl
not_below (negsuc n) u w k h = absurd h.le
not_below (pos zero) u w (inl k) h = falls w k
  where
    falls : (w : ℤ) → w <ℤ pos 0 → negative w || is_zero w && positive u ≡ true
    falls (pos n) k = absurd (omega (arith, lt_to (pos n ∷ []) (var 0) (con (pos 0)) k))
    falls (negsuc n) k = refl
not_below (pos zero) u w (inr k) h = rw k.0 (goes u k.1)
  where
    goes : (u : ℤ) → pos 0 <ℤ u → positive u ≡ true
    goes (pos zero) k = absurd k.lt
    goes (pos (suc n)) k = refl
    goes (negsuc n) k = absurd k.lt

only_above : (v u w : ℤ) → Loses u w → within v u w ≡ true → pos 0 <ℤ v
only_above (pos (suc n)) u w k h = lt_z_yes (lt→ltb 0 (suc n) (omega arith))
only_above (negsuc n) u w k h = absurd (false≢true h)
only_above (pos zero) u (negsuc n) (inl k) h = absurd k.lt
only_above (pos zero) u (pos zero) (inl k) h = absurd k.lt
only_above (pos zero) u (pos (suc n)) (inl k) h = absurd (false≢true h)
only_above (pos zero) u w (inr k) h = absurd (goes u k.1 (rw k.0 at h))
  where
    goes : (u : ℤ) → u <ℤ pos 0 → positive u ≡ true → ⊥
    goes (pos n) k h = omega (arith, lt_to (pos n ∷ []) (var 0) (con (pos 0)) k)
    goes (negsuc n) k h = false≢true h

module _ (e : Edge) (p : Point) {v : ℤ} (q : edge_value e p ≡ v) where
  pub kept_side : Keeps (dx e) (dy e) → (inside e p ≡ true) ↔ (pos 0 ≤ℤ v)
  kept_side k = (
    λ h. subst (λ (z : ℤ). pos 0 ≤ℤ z) q (value-le e p h),
    λ h. inside_is e p ∙ not_below (edge_value e p) (dx e) (dy e) k (subst (λ (z : ℤ). pos 0 ≤ℤ z) (sym q) h),
  )

  pub lost_side : Loses (dx e) (dy e) → (inside e p ≡ true) ↔ (pos 0 <ℤ v)
  lost_side k = (
    λ h. subst (λ (z : ℤ). pos 0 <ℤ z) q (only_above (edge_value e p) (dx e) (dy e) k (sym (inside_is e p) ∙ h)),
    λ h. inside_is e p ∙ above (edge_value e p) (dx e) (dy e) (subst (λ (z : ℤ). pos 0 <ℤ z) (sym q) h),
  )

-- a test of one coordinate, and the value of an edge that is that test times a length

abbrev ρ₃ : ℤ → ℤ → ℤ → List ℤ
ρ₃ a b d = a ∷ b ∷ d ∷ []

module _ (a b d : ℤ) (hd : pos 0 <ℤ d) where
  pub le-product : a ≤ℤ b → pos 0 ≤ℤ ((b -ℤ a) *ℤ d)
  le-product h = mul_nonneg (sub_nonneg h) (<ℤ→≤ℤ hd)

  pub lt-product : a <ℤ b → pos 0 <ℤ ((b -ℤ a) *ℤ d)
  lt-product h = mul-pos (lt_of (ρ₃ a b d) (con (pos 0)) (var 1 ⊖ var 0) (omega (arith, lt_to (ρ₃ a b d) (var 0) (var 1) h))) hd

module _ (a b d : ℤ) (hd : pos 0 <ℤ d) where
  pub product_le : pos 0 ≤ℤ ((b -ℤ a) *ℤ d) → le_z a b ≡ true
  product_le h = go (le_z a b) refl
    where
      go : (t : Bool) → le_z a b ≡ t → t ≡ true
      go true e = refl
      go false e =
          let l = lt-product b a d hd (le_z_false a b e) in
          absurd (omega (
            arith,
            le_to (ρ₃ a b d) (con (pos 0)) ((var 1 ⊖ var 0) ⊗ var 2) h,
            lt_to (ρ₃ a b d) (con (pos 0)) ((var 0 ⊖ var 1) ⊗ var 2) l,
          ))

  pub product_lt : pos 0 <ℤ ((b -ℤ a) *ℤ d) → lt_z a b ≡ true
  product_lt h = go (lt_z a b) refl
    where
      go : (t : Bool) → lt_z a b ≡ t → t ≡ true
      go true e = refl
      go false e =
          let l = le-product b a d hd (lt_z_false a b e) in
          absurd (omega (
            arith,
            lt_to (ρ₃ a b d) (con (pos 0)) ((var 1 ⊖ var 0) ⊗ var 2) h,
            le_to (ρ₃ a b d) (con (pos 0)) ((var 0 ⊖ var 1) ⊗ var 2) l,
          ))
