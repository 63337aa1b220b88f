-- Three edges that close cannot all keep their zeros: none of them goes down, so all are level, and then all go to the right. Hence a point
-- inside a triangle's three edges has no value below 0, and not three zeros.
use Prim.Native.Nat.{zero, suc}
use mathlib.Core.Path.{◌≡◌, subst}
use mathlib.Core.List.{List, [], ◌∷◌}
use mathlib.Core.Bool.{Bool, true, ◌&&◌, ◌||◌, false≢true}
use native.Mathlib.Omega.{arith}
use lib.IntN.{ℤ, pos, negsuc}
use lib.Signed.{◌≤ℤ◌, ◌<ℤ◌, le_z_yes, lt_z_yes, ≤ℤ_refl}
use lib.Dec.{lt→ltb}
use Rattle.ints.proofs.Poly.{var, con, ◌⊖◌}
use Rattle.ints.proofs.Order.{pos-le, le_to, lt_to, eq_of}
use Rattle.rules.specs.declared.Vertices.{Vertices}
use Rattle.rules.specs.Triangles.{Edge, Point, dx, dy, edge1, edge2, edge3, edge_value, inside, inside_all, keeps_zero}
use Rattle.rules.specs.Triangles.{positive, is_zero, negative}
use Rattle.rules.proofs.Strips.{and_l, and_r}

-- one edge

inside-le : (z : ℤ) (b : Bool) → positive z || is_zero z && b ≡ true → pos 0 ≤ℤ z
inside-le (pos n) b h = pos-le (omega arith)
inside-le (negsuc n) b h = absurd (false≢true h)

inside_zero : (z : ℤ) (b : Bool) → positive z || is_zero z && b ≡ true → z ≡ pos 0 → b ≡ true
inside_zero z b h e = subst (λ (k : ℤ). positive k || is_zero k && b ≡ true) e h

falls_or_level : (a b : ℤ) → negative a || is_zero a && positive b ≡ true → a ≤ℤ pos 0
falls_or_level (pos zero) b h = ≤ℤ_refl (pos 0)
falls_or_level (pos (suc n)) b h = absurd (false≢true h)
falls_or_level (negsuc n) b h = le_z_yes tt

level_right : (a b : ℤ) → negative a || is_zero a && positive b ≡ true → a ≡ pos 0 → pos 0 <ℤ b
level_right a b h e = go b (subst (λ (k : ℤ). negative k || is_zero k && positive b ≡ true) e h)
  where
    go : (k : ℤ) → positive k ≡ true → pos 0 <ℤ k
    go (pos zero) p = absurd (false≢true p)
    go (pos (suc n)) p = lt_z_yes (lt→ltb 0 (suc n) (omega arith))
    go (negsuc n) p = absurd (false≢true p)

module _ (e : Edge) (p : Point) (h : inside e p ≡ true) where
  pub value-le : pos 0 ≤ℤ edge_value e p
  unfolding inside
  value-le = inside-le (edge_value e p) (keeps_zero (dx e) (dy e)) h

  zero_kept : edge_value e p ≡ pos 0 → keeps_zero (dx e) (dy e) ≡ true
  unfolding inside
  zero_kept = inside_zero (edge_value e p) (keeps_zero (dx e) (dy e)) h

-- three edges that close

module _ (v : Vertices) where
  abbrev ρ : List ℤ
  ρ = v.x1 ∷ v.y1 ∷ v.x2 ∷ v.y2 ∷ v.x3 ∷ v.y3 ∷ []

  abbrev Keeps : Edge → Type 0
  Keeps e = keeps_zero (dx e) (dy e) ≡ true

  closed : Keeps (edge1 v) → Keeps (edge2 v) → Keeps (edge3 v) → ⊥
  unfolding keeps_zero
  closed k1 k2 k3 =
      let l1 = le_to ρ (var 3 ⊖ var 1) (con (pos 0)) (falls_or_level (dy (edge1 v)) (dx (edge1 v)) k1) in
      let l2 = le_to ρ (var 5 ⊖ var 3) (con (pos 0)) (falls_or_level (dy (edge2 v)) (dx (edge2 v)) k2) in
      let l3 = le_to ρ (var 1 ⊖ var 5) (con (pos 0)) (falls_or_level (dy (edge3 v)) (dx (edge3 v)) k3) in
      let z1 : dy (edge1 v) ≡ pos 0 = eq_of ρ (var 3 ⊖ var 1) (con (pos 0)) (omega (arith, l1, l2, l3)) in
      let z2 : dy (edge2 v) ≡ pos 0 = eq_of ρ (var 5 ⊖ var 3) (con (pos 0)) (omega (arith, l1, l2, l3)) in
      let z3 : dy (edge3 v) ≡ pos 0 = eq_of ρ (var 1 ⊖ var 5) (con (pos 0)) (omega (arith, l1, l2, l3)) in
      omega (
        arith,
        lt_to ρ (con (pos 0)) (var 2 ⊖ var 0) (level_right (dy (edge1 v)) (dx (edge1 v)) k1 z1),
        lt_to ρ (con (pos 0)) (var 4 ⊖ var 2) (level_right (dy (edge2 v)) (dx (edge2 v)) k2 z2),
        lt_to ρ (con (pos 0)) (var 0 ⊖ var 4) (level_right (dy (edge3 v)) (dx (edge3 v)) k3 z3),
      )

  -- a point inside all three
  module _ (p : Point) (h : inside_all v p ≡ true) where
    in1 : inside (edge1 v) p ≡ true
    unfolding inside_all
    in1 = search (and_l, and_r)

    in2 : inside (edge2 v) p ≡ true
    unfolding inside_all
    in2 = search (and_l, and_r)

    in3 : inside (edge3 v) p ≡ true
    unfolding inside_all
    in3 = search (and_l, and_r)

    pub no_value_below : (pos 0 ≤ℤ edge_value (edge1 v) p) × (pos 0 ≤ℤ edge_value (edge2 v) p) × (pos 0 ≤ℤ edge_value (edge3 v) p)
    no_value_below = (value-le (edge1 v) p in1, value-le (edge2 v) p in2, value-le (edge3 v) p in3)

    pub not_three_zeros : edge_value (edge1 v) p ≡ pos 0 → edge_value (edge2 v) p ≡ pos 0 → edge_value (edge3 v) p ≡ pos 0 → ⊥
    not_three_zeros z1 z2 z3 =
        closed (zero_kept (edge1 v) p in1 z1) (zero_kept (edge2 v) p in2 z2) (zero_kept (edge3 v) p in3 z3)
