-- A triangle whose doubled area is not positive covers no pixel: the three edge values sum to the doubled area at every point, and a point
-- inside all edges has no value below 0 and not three zeros.
use Prim.Native.Nat.{ℕ, zero, suc}
use mathlib.Core.Path.{◌≡◌, refl, sym, ◌∙◌, ap}
use mathlib.Core.Logic.{◌⊎◌, inl, inr}
use mathlib.Core.Bool.{Bool, true, false, not, false≢true}
use mathlib.Core.List.{List, [], ◌∷◌}
use native.Mathlib.Omega.{arith}
use lib.IntN.{ℤ, pos, negsuc, neg_ℤ, ◌+ℤ◌}
use lib.Signed.{◌≤ℤ◌}
use Rattle.ints.proofs.Poly.{Exp, var, con, neg, ◌⊕◌, ◌⊖◌, ◌⊗◌, solve}
use Rattle.ints.proofs.Order.{le_z_true, le_to, eq_to, eq_of}
use Rattle.rules.specs.declared.Screen.{Screen}
use Rattle.rules.specs.declared.Vertices.{Vertices}
use Rattle.rules.specs.declared.Triangle.{Triangle}
use Rattle.rules.specs.Sizes.{width, height}
use Rattle.rules.specs.Triangles.{Point, edge1, edge2, edge3, edge_value, positive, inside_all, sample, covered, covered_pixels, doubled_area}
use Rattle.rules.proofs.Choices.{not_positive}
use Rattle.rules.proofs.Folds.{pixels-none}
use Rattle.rules.proofs.Closing.{no_value_below, not_three_zeros}
use Rattle.order.specs.Sides.{Which, first, second, third}
use Rattle.order.specs.Sides.{turned_twin}
use Rattle.order.proofs.Sides.{inside-covered}

-- the values of a triangle's edges sum to its doubled area
module _ (v : Vertices) (p : Point) where
  abbrev ρ : List ℤ
  ρ = v.x1 ∷ v.y1 ∷ v.x2 ∷ v.y2 ∷ v.x3 ∷ v.y3 ∷ p.px ∷ p.py ∷ []

  abbrev value : Exp → Exp → Exp → Exp → Exp
  value x1 y1 x2 y2 = (var 7 ⊖ y1) ⊗ (x2 ⊖ x1) ⊖ (var 6 ⊖ x1) ⊗ (y2 ⊖ y1)

  pub values-sum : edge_value (edge1 v) p +ℤ edge_value (edge2 v) p +ℤ edge_value (edge3 v) p ≡ doubled_area v
  unfolding edge_value doubled_area
  values-sum =
      solve ρ
      (value (var 0) (var 1) (var 2) (var 3) ⊕ value (var 2) (var 3) (var 4) (var 5) ⊕ value (var 4) (var 5) (var 0) (var 1))
      ((var 2 ⊖ var 0) ⊗ (var 5 ⊖ var 1) ⊖ (var 4 ⊖ var 0) ⊗ (var 3 ⊖ var 1))
      tt

not_above : (z : ℤ) → positive z ≡ false → z ≤ℤ pos 0
not_above z e = le_z_true z (pos 0) (not_positive z ∙ ap not e)

module _ (t : Triangle) (p : Point) (h : inside_all t.vertices p ≡ true) where
  abbrev σ : List ℤ
  σ =
      let v = t.vertices in
      edge_value (edge1 v) p ∷ edge_value (edge2 v) p ∷ edge_value (edge3 v) p ∷ doubled_area v ∷ []

  pub inside-area : positive (doubled_area t.vertices) ≡ true
  inside-area = go (positive (doubled_area t.vertices)) refl
    where
      go : (b : Bool) → positive (doubled_area t.vertices) ≡ b → b ≡ true
      go true e = refl
      go false e =
          let v = no_value_below t.vertices p h in
          let l1 = le_to σ (con (pos 0)) (var 0) v.0 in
          let l2 = le_to σ (con (pos 0)) (var 1) v.1 in
          let l3 = le_to σ (con (pos 0)) (var 2) v.2 in
          let d = le_to σ (var 3) (con (pos 0)) (not_above (doubled_area t.vertices) e) in
          let s = eq_to σ (var 0 ⊕ var 1 ⊕ var 2) (var 3) (values-sum t.vertices p) in
          absurd (not_three_zeros t.vertices p h
          (eq_of σ (var 0) (con (pos 0)) (omega (arith, l1, l2, l3, d, s)))
          (eq_of σ (var 1) (con (pos 0)) (omega (arith, l1, l2, l3, d, s)))
          (eq_of σ (var 2) (con (pos 0)) (omega (arith, l1, l2, l3, d, s))))

pub covered-area : (t : Triangle) (s : Screen) (x y : ℕ) → covered t s x y ≡ true → positive (doubled_area t.vertices) ≡ true
covered-area t s x y c = inside-area t (sample x y) (inside-covered t s x y c)

module _ (t : Triangle) (s : Screen) (n : positive (doubled_area t.vertices) ≡ false) where
  pub no_area : (x y : ℕ) → covered t s x y ≡ false
  no_area x y = go (covered t s x y) (covered-area t s x y)
    where
      go : (b : Bool) → (b ≡ true → positive (doubled_area t.vertices) ≡ true) → b ≡ false
      go true h = sym (h refl) ∙ n
      go false h = refl

  pub no_area_counts : covered_pixels t s ≡ 0
  no_area_counts = pixels-none (covered t s) (width s.size) (height s.size) (λ x y a b. no_area x y)

-- a triangle and its turned twin

module _ (t : Triangle) where
  abbrev area_e : Exp → Exp → Exp → Exp → Exp → Exp → Exp
  area_e x1 y1 x2 y2 x3 y3 = (x2 ⊖ x1) ⊗ (y3 ⊖ y1) ⊖ (x3 ⊖ x1) ⊗ (y2 ⊖ y1)

  abbrev ρ₆ : List ℤ
  ρ₆ = let v = t.vertices in v.x1 ∷ v.y1 ∷ v.x2 ∷ v.y2 ∷ v.x3 ∷ v.y3 ∷ []

  abbrev whole : Exp
  whole = area_e (var 0) (var 1) (var 2) (var 3) (var 4) (var 5)

  pub turned-area : (i : Which) → doubled_area (turned_twin i t).vertices ≡ neg_ℤ (doubled_area t.vertices)
  unfolding doubled_area
  turned-area first = solve ρ₆ (area_e (var 2) (var 3) (var 0) (var 1) (var 4) (var 5)) (neg whole) tt
  turned-area second = solve ρ₆ (area_e (var 0) (var 1) (var 4) (var 5) (var 2) (var 3)) (neg whole) tt
  turned-area third = solve ρ₆ (area_e (var 4) (var 5) (var 2) (var 3) (var 0) (var 1)) (neg whole) tt

  -- one of the two covers nothing, on any screen
  pub one_covers_none : (i : Which)
      → ((s : Screen) (x y : ℕ) → covered t s x y ≡ false) ⊎ ((s : Screen) (x y : ℕ) → covered (turned_twin i t) s x y ≡ false)
  one_covers_none i = go (positive (doubled_area t.vertices)) refl
    where
      turned_sign : (z : ℤ) → positive z ≡ true → positive (neg_ℤ z) ≡ false
      turned_sign (pos zero) e = refl
      turned_sign (pos (suc n)) e = refl
      turned_sign (negsuc n) e = absurd (false≢true e)

      go : (b : Bool) → positive (doubled_area t.vertices) ≡ b
          → ((s : Screen) (x y : ℕ) → covered t s x y ≡ false) ⊎ ((s : Screen) (x y : ℕ) → covered (turned_twin i t) s x y ≡ false)
      go true e = inr (λ s. no_area (turned_twin i t) s (ap positive (turned-area i) ∙ turned_sign (doubled_area t.vertices) e))
      go false e = inl (λ s. no_area t s e)
