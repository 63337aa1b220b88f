-- Cramer's rule does what it is for: its denominator is the doubled area, its plane has each vertex's value there, its numerator is the
-- three values weighted by the edge values, and from pixel to pixel it goes in equal steps. All are identities of polynomials.
use Prim.Native.Nat.{ℕ}
use mathlib.Core.Path.{◌≡◌}
use mathlib.Core.List.{List, [], ◌∷◌}
use lib.IntN.{ℤ, pos, ◌+ℤ◌, ◌-ℤ◌, ◌*ℤ◌}
use Rattle.ints.proofs.Poly.{Exp, var, con, ◌⊕◌, ◌⊖◌, ◌⊗◌, solve}
use Rattle.rules.specs.declared.Vertices.{Vertices}
use Rattle.rules.specs.Triangles.{Point, sample, edge1, edge2, edge3, edge_value, doubled_area}
use Rattle.interpolation.specs.declared.Values.{Values}
use Rattle.interpolation.specs.Interpolation.{det, numerator_a, numerator_b, numerator_c, numerator}

module _ (v : Vertices) (r : Values) where
  abbrev numbers : List ℤ
  numbers = v.x1 ∷ v.y1 ∷ v.x2 ∷ v.y2 ∷ v.x3 ∷ v.y3 ∷ r.r1 ∷ r.r2 ∷ r.r3 ∷ []

  abbrev with_point : Point → List ℤ
  with_point p = v.x1 ∷ v.y1 ∷ v.x2 ∷ v.y2 ∷ v.x3 ∷ v.y3 ∷ r.r1 ∷ r.r2 ∷ r.r3 ∷ p.px ∷ p.py ∷ []

-- the definitions as expressions: variables 0 to 5 are x1, y1, x2, y2, x3, y3; values and point are any

abbrev pub area_e : Exp
area_e = (var 2 ⊖ var 0) ⊗ (var 5 ⊖ var 1) ⊖ (var 4 ⊖ var 0) ⊗ (var 3 ⊖ var 1)

module _ (r1 r2 r3 : Exp) where
  abbrev pub numerator_ae : Exp
  numerator_ae = r1 ⊗ (var 3 ⊖ var 5) ⊕ r2 ⊗ (var 5 ⊖ var 1) ⊕ r3 ⊗ (var 1 ⊖ var 3)

  abbrev pub numerator_be : Exp
  numerator_be = r1 ⊗ (var 4 ⊖ var 2) ⊕ r2 ⊗ (var 0 ⊖ var 4) ⊕ r3 ⊗ (var 2 ⊖ var 0)

  abbrev numerator_ce : Exp
  numerator_ce =
      r1 ⊗ (var 2 ⊗ var 5 ⊖ var 4 ⊗ var 3) ⊕ r2 ⊗ (var 4 ⊗ var 1 ⊖ var 0 ⊗ var 5) ⊕ r3 ⊗ (var 0 ⊗ var 3 ⊖ var 2 ⊗ var 1)

  abbrev pub numerator_e : Exp → Exp → Exp
  numerator_e px py = numerator_ae ⊗ px ⊕ numerator_be ⊗ py ⊕ numerator_ce

-- the values after the vertices, then the point

abbrev a_e : Exp
a_e = numerator_ae (var 6) (var 7) (var 8)

abbrev b_e : Exp
b_e = numerator_be (var 6) (var 7) (var 8)

abbrev at_e : Exp → Exp → Exp
at_e = numerator_e (var 6) (var 7) (var 8)

abbrev value_e : Exp → Exp → Exp → Exp → Exp
value_e x1 y1 x2 y2 = (var 10 ⊖ y1) ⊗ (x2 ⊖ x1) ⊖ (var 9 ⊖ x1) ⊗ (y2 ⊖ y1)

pub det_is_area : (v : Vertices) → det v ≡ doubled_area v
unfolding doubled_area
det_is_area v =
    solve (v.x1 ∷ v.y1 ∷ v.x2 ∷ v.y2 ∷ v.x3 ∷ v.y3 ∷ [])
    (var 0 ⊗ (var 3 ⊖ var 5) ⊕ var 2 ⊗ (var 5 ⊖ var 1) ⊕ var 4 ⊗ (var 1 ⊖ var 3))
    area_e
    tt

module _ (v : Vertices) (r : Values) where
  -- the plane goes through the three values
  pub through_first : numerator v r (record { px = v.x1; py = v.y1 }) ≡ r.r1 *ℤ doubled_area v
  unfolding numerator numerator_a numerator_b numerator_c doubled_area
  through_first = solve (numbers v r) (at_e (var 0) (var 1)) (var 6 ⊗ area_e) tt

  pub through_second : numerator v r (record { px = v.x2; py = v.y2 }) ≡ r.r2 *ℤ doubled_area v
  unfolding numerator numerator_a numerator_b numerator_c doubled_area
  through_second = solve (numbers v r) (at_e (var 2) (var 3)) (var 7 ⊗ area_e) tt

  pub through_third : numerator v r (record { px = v.x3; py = v.y3 }) ≡ r.r3 *ℤ doubled_area v
  unfolding numerator numerator_a numerator_b numerator_c doubled_area
  through_third = solve (numbers v r) (at_e (var 4) (var 5)) (var 8 ⊗ area_e) tt

  -- each value is weighted by the edge opposite its vertex
  pub weighted : (p : Point)
      → numerator v r p
      ≡ r.r1 *ℤ edge_value (edge2 v) p +ℤ r.r2 *ℤ edge_value (edge3 v) p +ℤ r.r3 *ℤ edge_value (edge1 v) p
  unfolding numerator numerator_a numerator_b numerator_c edge_value
  weighted p =
      solve (with_point v r p)
      (at_e (var 9) (var 10))
      (var 6 ⊗ value_e (var 2) (var 3) (var 4) (var 5) ⊕ var 7 ⊗ value_e (var 4) (var 5) (var 0) (var 1)
      ⊕ var 8 ⊗ value_e (var 0) (var 1) (var 2) (var 3))
      tt

  -- from pixel (0, 0) by whole pixels
  pub stepped : (x y : ℕ)
      → numerator v r (sample x y)
      ≡ numerator v r (sample 0 0) +ℤ pos 8 *ℤ numerator_a v r *ℤ pos x +ℤ pos 8 *ℤ numerator_b v r *ℤ pos y
  unfolding numerator sample
  stepped x y =
      solve (numerator_a v r ∷ numerator_b v r ∷ numerator_c v r ∷ pos x ∷ pos y ∷ [])
      (var 0 ⊗ (con (pos 8) ⊗ var 3 ⊕ con (pos 4)) ⊕ var 1 ⊗ (con (pos 8) ⊗ var 4 ⊕ con (pos 4)) ⊕ var 2)
      (var 0 ⊗ con (pos 4) ⊕ var 1 ⊗ con (pos 4) ⊕ var 2 ⊕ con (pos 8) ⊗ var 0 ⊗ var 3 ⊕ con (pos 8) ⊗ var 1 ⊗ var 4)
      tt

  -- by differences from the first vertex, which take fewer products

  pub a-by-differences :
      numerator_a v r ≡ (r.r2 -ℤ r.r1) *ℤ (v.y3 -ℤ v.y1) -ℤ (r.r3 -ℤ r.r1) *ℤ (v.y2 -ℤ v.y1)
  unfolding numerator_a
  a-by-differences =
      solve (numbers v r) a_e ((var 7 ⊖ var 6) ⊗ (var 5 ⊖ var 1) ⊖ (var 8 ⊖ var 6) ⊗ (var 3 ⊖ var 1)) tt

  pub b-by-differences :
      numerator_b v r ≡ (v.x2 -ℤ v.x1) *ℤ (r.r3 -ℤ r.r1) -ℤ (v.x3 -ℤ v.x1) *ℤ (r.r2 -ℤ r.r1)
  unfolding numerator_b
  b-by-differences =
      solve (numbers v r) b_e ((var 2 ⊖ var 0) ⊗ (var 8 ⊖ var 6) ⊖ (var 4 ⊖ var 0) ⊗ (var 7 ⊖ var 6)) tt

  pub by_differences : (p : Point)
      → numerator v r p
      ≡ r.r1 *ℤ doubled_area v +ℤ numerator_a v r *ℤ (p.px -ℤ v.x1) +ℤ numerator_b v r *ℤ (p.py -ℤ v.y1)
  unfolding numerator numerator_a numerator_b numerator_c doubled_area
  by_differences p =
      solve (with_point v r p)
      (at_e (var 9) (var 10))
      (var 6 ⊗ area_e ⊕ a_e ⊗ (var 9 ⊖ var 0) ⊕ b_e ⊗ (var 10 ⊖ var 1))
      tt
