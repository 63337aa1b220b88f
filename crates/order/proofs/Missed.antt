-- "Columns drawn twice where two triangles meet, or not at all": a pixel of the screen that is inside the other four edges of two triangles
-- with a common edge in opposite directions is covered by exactly one of the two.
use Prim.Native.Nat.{ℕ}
use mathlib.Core.Path.{◌≡◌, sym, ◌∙◌, ap}
use mathlib.Core.Bool.{true, not, ◌&&◌}
use Rattle.rules.specs.declared.Screen.{Screen}
use Rattle.rules.specs.declared.Triangle.{Triangle}
use Rattle.rules.specs.Triangles.{inside, on_screen, sample, covered}
use Rattle.rules.proofs.Choices.{and_whole}
use Rattle.order.specs.Sides.{Which, side, inside_others}
use Rattle.order.specs.CommonEdge.{InCommon}
use Rattle.order.proofs.Sides.{inside-from, covered-screen}
use Rattle.order.proofs.CommonEdge.{opposite_inside}

-- between its other two sides a pixel is covered as the one side says
by_one_side : (t : Triangle) (s : Screen) (x y : ℕ) (i : Which)
    → on_screen s x y ≡ true
    → inside_others t i (sample x y) ≡ true
    → covered t s x y ≡ inside (side t i) (sample x y)
by_one_side t s x y i o h =
    covered-screen t s x y o
    ∙ inside-from t i (sample x y)
    ∙ ap (λ b. inside (side t i) (sample x y) && b) h
    ∙ and_whole (inside (side t i) (sample x y))

module _ (a b : Triangle) (i j : Which) (common : InCommon (side a i) (side b j)) where
  pub covered_by_one : (s : Screen) (x y : ℕ)
      → on_screen s x y ≡ true
      → inside_others a i (sample x y) ≡ true
      → inside_others b j (sample x y) ≡ true
      → covered b s x y ≡ not (covered a s x y)
  covered_by_one s x y o p q =
      by_one_side b s x y j o q ∙ opposite_inside common (sample x y) ∙ ap not (sym (by_one_side a s x y i o p))
