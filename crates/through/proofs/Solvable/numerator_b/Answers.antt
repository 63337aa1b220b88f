-- B's numerator is `determinant` of the x's and the values.
use mathlib.Core.Path.{sym, ◌∙◌}
use native.Mathlib.Omega.{arith}
use Rattle.interpolation.proofs.Cramer.{b-by-differences}
use Rattle.through.proofs.Ranges.{within, reads_back, small, determinant-answer}
use Rattle.through.proofs.Solvable.numerator_b.Goals as goal

pub determinant-requires-clause-p : goal.determinant-requires-clause-p
determinant-requires-clause-p c =
    let w = (within c.args.self).vertices in
    small w.x1 w.x2 w.x3 (omega arith)

pub determinant-requires-clause-q : goal.determinant-requires-clause-q
determinant-requires-clause-q c =
    let u = (within c.args.self).values in
    small u.r1 u.r2 u.r3 (omega arith)

pub returns : goal.returns
returns c =
    let s = c.args.self in
    let w = (within s).vertices in
    let u = (within s).values in
    reads_back c.determinant.type_inv
    ∙ determinant-answer c.determinant.ensures w.x1 w.x2 w.x3 u.r1 u.r2 u.r3 (omega arith) (omega arith)
    ∙ sym (b-by-differences s.corners.vertices s.values)
