-- The rising value, scaled, is within 64 bits, and its quotient has one rounding.
use Prim.Native.Nat.{◌+◌}
use mathlib.Core.Path.{◌≡◌, ap, ap₂, subst₂}
use native.Mathlib.Omega.{arith}
use lib.IntN.{ℤ, nat_abs, ◌*ℤ◌}
use mir.Syntax.{w64}
use mir.Val.{to_z, of_z}
use Rattle.std.proofs.lemmas.Int.{to_z-of_z}
use Rattle.rules.specs.Triangles.{Edge, dy}
use Rattle.edges.specs.Corners.{edge_of}
use Rattle.edges.proofs.Within.{EdgeWithin, edge_within}
use Rattle.cover.specs.Units.{raise, Rounded}
use Rattle.cover.specs.Side.{rising, across, scale}
use Rattle.cover.proofs.Quotients.{rounded_more}
use Rattle.cover.proofs.Crossing.{scaled_within}
use Rattle.cover.proofs.crossed.crossing.Goals.{After-rising_value}
use Rattle.cover.proofs.crossed.crossing.Goals as goal

module _ (c : After-rising_value) where
  abbrev edge : Edge
  edge = edge_of c.args.e

  in_range : EdgeWithin edge
  in_range = edge_within edge c.args.e.in_range

  is_dy : to_z w64 (of_z w64 c.dy-dy.result) ≡ dy edge
  is_dy = grind (arith, to_z-of_z)

  is_rising : to_z w64 (of_z w64 c.rising_value.result) ≡ rising edge 0 c.args.y
  is_rising = grind (arith, to_z-of_z, c.rising_value.ensures)

  is_scaled : scale (to_z w64 (of_z w64 c.dy-dy.result)) *ℤ to_z w64 (of_z w64 c.rising_value.result)
      ≡ scale (dy edge) *ℤ rising edge 0 c.args.y
  is_scaled = ap₂ (λ (y z : ℤ). scale y *ℤ z) is_dy is_rising

pub in_ticks-requires-clause-raisable : goal.in_ticks-requires-clause-raisable
in_ticks-requires-clause-raisable c =
    let p = (goal.at.in_ticks-requires-clause-raisable c).After-rising_value in
    let n = ap nat_abs (is_scaled p) in
    let w = scaled_within (edge p) (in_range p) c.args.y c.requires in
    record { fits = omega (arith, n, w.within); below = omega (arith, n, w.within); most = omega arith }

pub returns : goal.returns
returns c =
    let p = (goal.at.returns c).After-rising_value in
    rounded_more
    (subst₂ (λ z a. Rounded z a raise 1 c.in_ticks.result) (is_scaled p) (ap across (is_dy p)) c.in_ticks.ensures)
    (c.args.y + 1) (omega arith)
