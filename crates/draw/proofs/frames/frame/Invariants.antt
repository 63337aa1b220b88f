-- The loop's invariant is `Down`, what holds before row y, and the crossings of that row. Rows that the triangle
-- cannot touch are skipped by its law.
use Rattle.cover.specs.Side.{CrossingsOf}
use Rattle.rows.specs.Lines.{drawing}
use Rattle.draw.proofs.Framed.{Down}
use Rattle.draw.proofs.frames.frame.Given as goal

abbrev pub invariant-loop-y : goal.invariant-loop-y
invariant-loop-y l = Down l.initial.ram l.s l.t (drawing l.ram l.c) l.y × CrossingsOf l.t.vertices l.y l.m
