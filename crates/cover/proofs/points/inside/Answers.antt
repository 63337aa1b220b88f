-- The value less the loss is the lowered value, which is not negative exactly inside.
use mathlib.Core.Path.{◌≡◌}
use native.Mathlib.Omega.{arith}
use Rattle.std.proofs.lemmas.Int.{to_z-of_z}
use Rattle.ints.proofs.Machine.{◌⊟◌, reads_as}
use Rattle.rules.specs.Triangles.{dx, dy}
use Rattle.edges.specs.Corners.{edge_of}
use Rattle.edges.proofs.Codes.{answered}
use Rattle.cover.specs.Side.{loss}
use Rattle.cover.proofs.Along.{inside_tested}
use Rattle.cover.proofs.points.inside.Goals as goal

pub returns : goal.returns
returns c =
    let e = edge_of c.args.e in
    let lost : c.loss.result ≡ loss (dx e) (dy e) = grind (arith, to_z-of_z, c.loss.ensures.lost) in
    inside_tested e c.args.x c.args.y
    (reads_as (answered c.value.ensures.value c.value.ensures.bound tt ⊟ answered lost c.loss.ensures.bound tt) tt)
