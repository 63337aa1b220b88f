-- Demand 3's second part. Of two edges that run along a common edge of non-zero length in opposite directions, each has the points inside
-- that the common edge has, or that it has turned, and no point is inside both.
use Prim.Native.Nat.{ℕ}
use mathlib.Core.Path.{◌≡◌, refl, sym, ◌∙◌, ap}
use mathlib.Core.Logic.{inl, inr}
use mathlib.Core.Bool.{Bool, true, false, not, true≢false}
use mathlib.Core.List.{List, [], ◌∷◌}
use lib.ListN.{length}
use lib.IntN.{ℤ, pos}
use lib.Signed.{le_z, ≤ℤ_refl}
use Rattle.ints.proofs.Poly.{var, con, ◌⊖◌, ◌⊗◌, solve}
use Rattle.ints.proofs.Order.{le_z_true, le_z_false, <ℤ→≤ℤ}
use Rattle.rules.specs.declared.Screen.{Screen}
use Rattle.rules.specs.declared.Triangle.{Triangle}
use Rattle.rules.specs.declared.Drawn.{Drawn}
use Rattle.rules.specs.Sizes.{sound}
use Rattle.rules.specs.Triangles.{Point, Edge, edge_value, inside, sample, covered}
use Rattle.rules.specs.Calls.{Draws}
use Rattle.order.specs.Order.{SameInBothOrders}
use Rattle.order.specs.Sides.{Which, side, turned, HasLength}
use Rattle.order.specs.CommonEdge.{Between, RunsAlong, InCommon}
use Rattle.order.proofs.Sides.{inside-side}
use Rattle.order.proofs.Turned.{turned-length, exactly_one_side}
use Rattle.order.proofs.Along.{squared_lt, along_inside}
use Rattle.order.proofs.Order.{either_order, calls_either_order}

pub opposite_inside : {e f : Edge} → InCommon e f → (p : Point) → inside f p ≡ not (inside e p)
opposite_inside {e} {f} c p =
    along_inside f (turned c.common) p (turned-length c.common c.long) c.other
    ∙ exactly_one_side c.common p c.long
    ∙ ap not (sym (along_inside e c.common p c.long c.one))

-- its case: the same two ends

between_start : (a b : ℤ) → Between a b a
between_start a b = go (le_z a b) refl
  where
    go : (t : Bool) → le_z a b ≡ t → Between a b a
    go true e = inl (≤ℤ_refl a, le_z_true a b e)
    go false e = inr (<ℤ→≤ℤ (le_z_false a b e), ≤ℤ_refl a)

between-end : (a b : ℤ) → Between a b b
between-end a b = swap (between_start b a)
  where
    swap : Between b a b → Between a b b
    swap (inl h) = inr h
    swap (inr h) = inl h

along_itself : (e : Edge) → HasLength e → RunsAlong e e
unfolding edge_value
along_itself e l = record {
  starts = record {
    on_line =
        solve ρ ((var 1 ⊖ var 1) ⊗ (var 2 ⊖ var 0) ⊖ (var 0 ⊖ var 0) ⊗ (var 3 ⊖ var 1)) (con (pos 0)) tt;
    across = between_start e.x1 e.x2;
    down = between_start e.y1 e.y2;
  };
  ends = record {
    on_line =
        solve ρ ((var 3 ⊖ var 1) ⊗ (var 2 ⊖ var 0) ⊖ (var 2 ⊖ var 0) ⊗ (var 3 ⊖ var 1)) (con (pos 0)) tt;
    across = between-end e.x1 e.x2;
    down = between-end e.y1 e.y2;
  };
  same_way = squared_lt e l;
}
  where
    ρ : List ℤ
    ρ = e.x1 ∷ e.y1 ∷ e.x2 ∷ e.y2 ∷ []

pub same_ends : (e : Edge) → HasLength e → InCommon e (turned e)
same_ends e l = record {
  common = e;
  long = l;
  one = along_itself e l;
  other = along_itself (turned e) (turned-length e l);
}

module _ (a b : Triangle) (i j : Which) (common : InCommon (side a i) (side b j)) where
  pub none_in_common : (s : Screen) (x y : ℕ) → covered a s x y ≡ true → covered b s x y ≡ true → ⊥
  none_in_common s x y p q =
      true≢false (sym (inside-side b s x y j q) ∙ opposite_inside common (sample x y) ∙ ap not (inside-side a s x y i p))

  pub order_never_matters : (s : Screen) (m : List ℕ) → sound (length m) s ≡ true → SameInBothOrders a b s m
  order_never_matters s m h = (either_order s m h a b).1 (λ x y p q. absurd (none_in_common s x y p q))

  -- of two calls in either order
  pub calls_order_never_matters : {s : Screen} {m m₁ m₂ k₁ k₂ : List ℕ} {ra₁ rb₂ rb₁ ra₂ : Drawn}
      → Draws m s a ra₁ m₁
      → Draws m₁ s b rb₂ m₂
      → Draws m s b rb₁ k₁
      → Draws k₁ s a ra₂ k₂
      → ra₁.number ≡ 0
      → rb₁.number ≡ 0
      → m₂ ≡ k₂
  calls_order_never_matters {s} da₁ db₂ db₁ da₂ ea eb =
      (calls_either_order da₁ db₂ db₁ da₂ ea eb).1 (λ x y p q. absurd (none_in_common s x y p q))
