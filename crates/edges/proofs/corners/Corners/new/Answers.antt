-- Vertices of any of the six numbers are in range.
use Rattle.std.proofs.Common.{arith, ◌≡◌, true}
use Rattle.std.proofs.lemmas.Grind.{common_steps}
use Rattle.std.proofs.lemmas.Int.{wraps}
use Rattle.rules.specs.Numbers.{vertices_in_range}
use Rattle.edges.proofs.Within.{six, six_in_range}
use Rattle.edges.proofs.corners.Corners.new.Goals as goal

pub invariant_of-result : goal.invariant_of-result
invariant_of-result c =
    let h : vertices_in_range c.args.vertices ≡ true = grind (arith, common_steps) in
    let s = six c.args.vertices h in
    record { in_range = grind (arith, wraps, six_in_range, s.in_x1, s.in_y1, s.in_x2, s.in_y2, s.in_x3, s.in_y3) }
