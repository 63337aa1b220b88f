-- The loop's invariant is `Across`: what holds before column a. Its laws are the loop's needs.
use Prim.Native.Nat.{◌-◌}
use Rattle.rows.specs.Lines.{drawing}
use Rattle.rows.proofs.Rowed.{Across}
use Rattle.rows.proofs.chunks.row.Given as goal

abbrev pub invariant-loop-a : goal.invariant-loop-a
invariant-loop-a l = Across l.line l.columns.start (drawing l.initial.ram l.initial.c) (drawing l.ram l.c) l.a

abbrev pub decreases-loop-a : goal.decreases-loop-a
decreases-loop-a l = l.columns.end - l.a
