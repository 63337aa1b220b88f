-- Each crossing goes a row down by the law over the edge.
use Rattle.rules.specs.Triangles.{edge1, edge2, edge3}
use Rattle.cover.proofs.Crossing.{crossing_below}
use Rattle.cover.proofs.crossed.crossings_below.Goals as goal

pub returns : goal.returns
returns c t y o h =
    let d = c.args.d in
    let m = c.args.m in
    record {
      of1 = crossing_below (edge1 t) y d.p m.p o.of1 h.of1 c.requires.first;
      of2 = crossing_below (edge2 t) y d.q m.q o.of2 h.of2 c.requires.second;
      of3 = crossing_below (edge3 t) y d.r m.r o.of3 h.of3 c.requires.third;
    }
