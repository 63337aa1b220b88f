-- The differences are within their range, so what a row adds, scaled, is within 64 bits, and its quotient has one rounding.
use mathlib.Core.Path.{◌≡◌, refl, ◌∙◌, ap, ap₂, subst, subst₂}
use native.Mathlib.Omega.{arith}
use borrow.Author.Tests.{lt-ltb}
use Prim.Native.Nat.{zero, suc, ◌≤◌}
use lib.IntN.{ℤ, pos, negsuc, nat_abs, ◌*ℤ◌}
use lib.Signed.{lt_z}
use mir.Syntax.{w64}
use mir.Val.{to_z, of_z}
use Rattle.std.proofs.lemmas.Int.{to_z-of_z}
use Rattle.rules.specs.Triangles.{Edge, dx, dy, positive}
use Rattle.edges.specs.Corners.{edge_of}
use Rattle.cover.specs.Units.{lift, Rounded}
use Rattle.cover.specs.Side.{across, scale, down}
use Rattle.cover.proofs.Crossing.{down_scaled_within}
use Rattle.cover.proofs.setup.side.Goals.{After-down}
use Rattle.cover.proofs.setup.side.Goals as goal

-- the sign as the test reads it
above : (z : ℤ) → lt_z (pos 0) z ≡ positive z
above (pos zero) = refl
above (pos (suc n)) = lt-ltb 0 (suc n) (omega arith)
above (negsuc n) = refl

module _ (c : After-down) where
  abbrev edge : Edge
  edge = edge_of c.args.e

  is_dy : to_z w64 (of_z w64 c.dy-dy.result) ≡ dy edge
  is_dy = grind (arith, to_z-of_z)

  is_down : to_z w64 (of_z w64 c.down.result) ≡ down (dx edge) (dy edge)
  is_down = grind (arith, to_z-of_z, c.down.ensures)

  is_scaled : scale (to_z w64 (of_z w64 c.dy-dy.result)) *ℤ to_z w64 (of_z w64 c.down.result) ≡ scale (dy edge) *ℤ down (dx edge) (dy edge)
  is_scaled = ap₂ (λ (y z : ℤ). scale y *ℤ z) is_dy is_down

pub in_ticks-requires-clause-raisable : goal.in_ticks-requires-clause-raisable
in_ticks-requires-clause-raisable c =
    let p = (goal.at.in_ticks-requires-clause-raisable c).After-down in
    let n = ap nat_abs (is_scaled p) in
    let w = down_scaled_within (dx (edge p)) (dy (edge p)) (record { within = subst (λ z. nat_abs z ≤ 16384) c.dx-dx.ensures.distance c.dx-dx.ensures.bound }) in
    record { fits = omega (arith, n, w.within); below = omega (arith, n, w.within); most = omega arith }

pub returns : goal.returns
returns c =
    let p = (goal.at.returns c).After-down in
    record {
      is_down = subst₂ (λ z a. Rounded z a lift 1 c.in_ticks.result) (is_scaled p) (ap across (is_dy p)) c.in_ticks.ensures;
      is_ends = above _ ∙ ap positive (is_dy p);
    }
