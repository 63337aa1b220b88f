-- A pixel that lies above all three vertices, below, to the left or to the right of all of them, is not inside all three edges: the edge
-- values would be non-negative weights whose sum with three positive distances is 0, so all are 0, and no three edges that close keep
-- their zeros.
use mathlib.Core.Path.{◌≡◌, refl}
use mathlib.Core.List.{List, [], ◌∷◌}
use mathlib.Core.Bool.{Bool, true, false}
use native.Mathlib.Omega.{arith}
use lib.IntN.{ℤ, pos, ◌+ℤ◌, ◌-ℤ◌, ◌*ℤ◌}
use lib.Signed.{◌<ℤ◌}
use Rattle.ints.proofs.Poly.{Exp, var, con, ◌⊕◌, ◌⊖◌, ◌⊗◌, solve}
use Rattle.ints.proofs.Order.{lt_to, lt_of, zero_weights}
use Rattle.rules.specs.declared.Vertices.{Vertices}
use Rattle.rules.specs.Triangles.{Point, edge1, edge2, edge3, edge_value, inside_all}
use Rattle.rules.proofs.Closing.{no_value_below, not_three_zeros}

module _ (v : Vertices) where
  -- no inside point has three positive distances that the edge values weigh to 0
  module _ (p : Point) (d e f : ℤ) (hd : pos 0 <ℤ d) (he : pos 0 <ℤ e) (hf : pos 0 <ℤ f)
      (s : edge_value (edge2 v) p *ℤ d +ℤ edge_value (edge3 v) p *ℤ e +ℤ edge_value (edge1 v) p *ℤ f ≡ pos 0) where
    unweighed : inside_all v p ≡ true → ⊥
    unweighed h =
        let l = no_value_below v p h in
        let z = zero_weights l.1 l.2 l.0 hd he hf s in
        not_three_zeros v p h z.2 z.0 z.1

    refused : inside_all v p ≡ false
    refused = go (inside_all v p) refl
      where
        go : (b : Bool) → inside_all v p ≡ b → b ≡ false
        go true h = absurd (unweighed h)
        go false h = refl

-- the four sides

abbrev edge_e : Exp → Exp → Exp → Exp → Exp
edge_e a b c d = (var 7 ⊖ b) ⊗ (c ⊖ a) ⊖ (var 6 ⊖ a) ⊗ (d ⊖ b)

abbrev weighed : Exp → Exp → Exp → Exp
weighed d e f =
    edge_e (var 2) (var 3) (var 4) (var 5) ⊗ d
    ⊕ edge_e (var 4) (var 5) (var 0) (var 1) ⊗ e
    ⊕ edge_e (var 0) (var 1) (var 2) (var 3) ⊗ f

module _ (v : Vertices) (p : Point) where
  abbrev ρ₈ : List ℤ
  ρ₈ = v.x1 ∷ v.y1 ∷ v.x2 ∷ v.y2 ∷ v.x3 ∷ v.y3 ∷ p.px ∷ p.py ∷ []

  apart : {a b : ℤ} → a <ℤ b → pos 0 <ℤ (b -ℤ a)
  apart {a} {b} h =
      lt_of (a ∷ b ∷ []) (con (pos 0)) (var 1 ⊖ var 0) (omega (arith, lt_to (a ∷ b ∷ []) (var 0) (var 1) h))

  pub above : p.py <ℤ v.y1 → p.py <ℤ v.y2 → p.py <ℤ v.y3 → inside_all v p ≡ false
  unfolding edge_value
  above h1 h2 h3 =
      refused v p (v.y1 -ℤ p.py) (v.y2 -ℤ p.py) (v.y3 -ℤ p.py) (apart h1) (apart h2) (apart h3)
      (solve ρ₈ (weighed (var 1 ⊖ var 7) (var 3 ⊖ var 7) (var 5 ⊖ var 7)) (con (pos 0)) tt)

  pub below : v.y1 <ℤ p.py → v.y2 <ℤ p.py → v.y3 <ℤ p.py → inside_all v p ≡ false
  unfolding edge_value
  below h1 h2 h3 =
      refused v p (p.py -ℤ v.y1) (p.py -ℤ v.y2) (p.py -ℤ v.y3) (apart h1) (apart h2) (apart h3)
      (solve ρ₈ (weighed (var 7 ⊖ var 1) (var 7 ⊖ var 3) (var 7 ⊖ var 5)) (con (pos 0)) tt)

  pub left-of : p.px <ℤ v.x1 → p.px <ℤ v.x2 → p.px <ℤ v.x3 → inside_all v p ≡ false
  unfolding edge_value
  left-of h1 h2 h3 =
      refused v p (v.x1 -ℤ p.px) (v.x2 -ℤ p.px) (v.x3 -ℤ p.px) (apart h1) (apart h2) (apart h3)
      (solve ρ₈ (weighed (var 0 ⊖ var 6) (var 2 ⊖ var 6) (var 4 ⊖ var 6)) (con (pos 0)) tt)

  pub right_of : v.x1 <ℤ p.px → v.x2 <ℤ p.px → v.x3 <ℤ p.px → inside_all v p ≡ false
  unfolding edge_value
  right_of h1 h2 h3 =
      refused v p (p.px -ℤ v.x1) (p.px -ℤ v.x2) (p.px -ℤ v.x3) (apart h1) (apart h2) (apart h3)
      (solve ρ₈ (weighed (var 6 ⊖ var 0) (var 6 ⊖ var 2) (var 6 ⊖ var 4)) (con (pos 0)) tt)
