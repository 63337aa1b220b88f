-- The doubled area is `determinant` of the x's and the y's, as it stands.
use native.Mathlib.Omega.{arith}
use Rattle.rules.specs.Triangles.{doubled_area}
use Rattle.through.proofs.Ranges.{corners_within, area_within, answered, small, determinant-answer}
use Rattle.through.proofs.doubled_area.Goals as goal

pub determinant-requires-clause-p : goal.determinant-requires-clause-p
determinant-requires-clause-p c =
    let w = corners_within c.args.corners in
    small w.x1 w.x2 w.x3 (omega arith)

pub determinant-requires-clause-q : goal.determinant-requires-clause-q
determinant-requires-clause-q c =
    let w = corners_within c.args.corners in
    small w.y1 w.y2 w.y3 (omega arith)

pub returns : goal.returns
unfolding doubled_area
returns c =
    let w = corners_within c.args.corners in
    answered
    (determinant-answer c.determinant.ensures w.x1 w.x2 w.x3 w.y1 w.y2 w.y3 (omega arith) (omega arith))
    (area_within c.args.corners.vertices w)
    tt
