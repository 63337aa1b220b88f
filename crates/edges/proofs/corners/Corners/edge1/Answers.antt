-- Any four of the six numbers are an edge in range.
use Rattle.std.proofs.Common.{arith}
use Rattle.std.proofs.lemmas.Int.{wraps}
use Rattle.edges.proofs.Within.{six, four_in_range}
use Rattle.edges.proofs.corners.Corners.edge1.Goals as goal

pub invariant_of-result : goal.invariant_of-result
invariant_of-result c =
    let s = six c.args.self.vertices c.args.self.in_range in
    record { in_range = grind (arith, wraps, four_in_range, s.in_x1, s.in_y1, s.in_x2, s.in_y2, s.in_x3, s.in_y3) }
