-- By the range of both vertices.
use native.Mathlib.Omega.{arith}
use Rattle.std.proofs.lemmas.Int.{ints}
use Rattle.edges.specs.Corners.{edge_of}
use Rattle.edges.proofs.Within.{edge_within}
use Rattle.edges.proofs.values.Edge.dx.Goals as goal

pub returns-clause-bound : goal.returns-clause-bound
returns-clause-bound c =
    let w = edge_within (edge_of c.args.self) c.args.self.in_range in
    omega (arith, ints, w.in_x1.within, w.in_x2.within)
