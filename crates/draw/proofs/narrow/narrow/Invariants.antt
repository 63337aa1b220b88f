-- The loop's invariant is `Down`, what holds before row y; in each row the column's pixel alone can be covered, and is where it is inside.
use Rattle.rows.specs.Lines.{drawing}
use Rattle.draw.proofs.Framed.{Down}
use Rattle.draw.proofs.narrow.narrow.Given as goal

abbrev pub invariant-loop-y : goal.invariant-loop-y
invariant-loop-y l = Down l.initial.ram l.s l.t (drawing l.ram l.c) l.y
