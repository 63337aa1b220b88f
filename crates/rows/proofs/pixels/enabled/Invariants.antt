-- The loop's invariant is `Pass`: what holds after some of the pixels. Its laws are the loop's needs.
use Rattle.rows.specs.Lines.{writing}
use Rattle.rows.proofs.Running.{next, Pass}
use Rattle.rows.proofs.pixels.enabled.Given as goal

abbrev pub invariant-loop-i : goal.invariant-loop-i
invariant-loop-i l = Pass l.line l.a (writing l.initial.ram l.given) (writing l.ram l.written) (next l.i l.v)
