-- An edge and the edge turned round: the edge value and both steps change sign. Of a value and its opposite one is positive, or both are 0;
-- then, where the edge has a length, one of the two keeps its zeros and the other loses them. So a point is inside exactly one of them.
use Prim.Native.Nat.{zero, suc}
use mathlib.Core.Path.{◌≡◌, refl, sym, ◌∙◌, ap}
use mathlib.Core.Logic.{◌≢◌, ◌⊎◌, inl, inr}
use mathlib.Core.Bool.{not}
use mathlib.Core.List.{[], ◌∷◌}
use lib.IntN.{ℤ, pos, negsuc, neg_ℤ, ◌-ℤ◌}
use Rattle.ints.proofs.Laws.{neg-sub}
use Rattle.ints.proofs.Poly.{var, neg, ◌⊖◌, ◌⊗◌, solve}
use Rattle.rules.specs.Triangles.{Point, Edge, dx, dy, edge_value, inside}
use Rattle.order.specs.Sides.{turned, HasLength}
use Rattle.order.proofs.Sides.{within, inside_is}

turned-value : (e : Edge) (p : Point) → edge_value (turned e) p ≡ neg_ℤ (edge_value e p)
unfolding edge_value
turned-value e p =
    solve (e.x1 ∷ e.y1 ∷ e.x2 ∷ e.y2 ∷ p.px ∷ p.py ∷ [])
    ((var 5 ⊖ var 3) ⊗ (var 0 ⊖ var 2) ⊖ (var 4 ⊖ var 2) ⊗ (var 1 ⊖ var 3))
    (neg ((var 5 ⊖ var 1) ⊗ (var 2 ⊖ var 0) ⊖ (var 4 ⊖ var 0) ⊗ (var 3 ⊖ var 1)))
    tt

inside-turned : (e : Edge) (p : Point) → inside (turned e) p ≡ within (neg_ℤ (edge_value e p)) (neg_ℤ (dx e)) (neg_ℤ (dy e))
inside-turned e p = rw (← (turned-value e p), neg-sub e.x2 e.x1, neg-sub e.y2 e.y1) (inside_is (turned e) p)

pub turned-length : (e : Edge) → HasLength e → HasLength (turned e)
turned-length e = λ h. go h
  where
    back : (a b : ℤ) → a -ℤ b ≡ pos 0 → b -ℤ a ≡ pos 0
    back a b z = sym (neg-sub a b) ∙ ap neg_ℤ z

    go : HasLength e → HasLength (turned e)
    go (inl h) = inl (λ z. h (back e.x1 e.x2 z))
    go (inr h) = inr (λ z. h (back e.y1 e.y2 z))

other-side : (v u w : ℤ) → (u ≢ pos 0) ⊎ (w ≢ pos 0) → within (neg_ℤ v) (neg_ℤ u) (neg_ℤ w) ≡ not (within v u w)
other-side (pos (suc n)) u w l = refl
other-side (negsuc n) u w l = refl
other-side (pos zero) u (pos (suc n)) l = refl
other-side (pos zero) u (negsuc n) l = refl
other-side (pos zero) (pos zero) (pos zero) (inl l) = absurd (l refl)
other-side (pos zero) (pos zero) (pos zero) (inr l) = absurd (l refl)
other-side (pos zero) (pos (suc n)) (pos zero) l = refl
other-side (pos zero) (negsuc n) (pos zero) l = refl

pub exactly_one_side : (e : Edge) (p : Point) → HasLength e → inside (turned e) p ≡ not (inside e p)
exactly_one_side e p l =
    inside-turned e p ∙ other-side (edge_value e p) (dx e) (dy e) l ∙ ap not (sym (inside_is e p))
