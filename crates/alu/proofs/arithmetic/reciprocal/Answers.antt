-- A word that is not 0 does not read as 0, so the quotient is there; it is no larger than 2147483647.
use mathlib.Core.Path.{◌∙◌, ap}
use lib.IntN.{pos}
use lib.Signed.{quot_z}
use mir.Syntax.{w64}
use borrow.Author.Tests.{ne_eqb}
use Rattle.ints.specs.Modulo.{mod32}
use Rattle.ints.proofs.Machine.{got_lit, Code, known, quot, reads_as}
use Rattle.instructions.specs.Arithmetic.{reciprocal}
use Rattle.alu.proofs.Readings.{reading}
use Rattle.alu.proofs.arithmetic.reciprocal.Goals as goal

pub returns : goal.returns
unfolding reciprocal
returns c =
    let quotient : Code w64 = quot (known (got_lit w64 2147483647 tt)) (reading c.ranges.a c.signed.ensures) in
    rw (ne_eqb c.args.a 0 c.if-a-eq0.false)
    (c.low32.ensures
    ∙ ap mod32 (reads_as quotient tt ∙ ap (quot_z (pos 2147483647)) c.signed.ensures))
