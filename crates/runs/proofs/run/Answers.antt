-- A halted state stays. The loop's invariant is `Kept`: what is left to run from here is the whole run. A pass is one step, which goes on or halts.
use mathlib.Core.Path.{refl}
use Rattle.pieces.proofs.Joined.{halt-not_zero}
use Rattle.runs.proofs.Invariant.{halted_ends, kept_end, kept_stop, kept_pass}
use Rattle.runs.proofs.run.Goals as goal

pub returns-then-halt-ne0 : goal.returns-then-halt-ne0
returns-then-halt-ne0 c = halted_ends _ _ _ c.if-halt-ne0.true

pub returns-in-Err : goal.returns-in-Err
returns-in-Err c =
    rw c.from.ensures (kept_stop c.loop-steps.invariant c.loop-steps-test.true _ c.in-Err.ensures (halt-not_zero c.in-Err.halt))

pub loop-steps-preserved : goal.loop-steps-preserved
loop-steps-preserved c =
    kept_pass c.loop-steps.invariant c.loop-steps-test.true _ c.in_default.ensures refl

pub returns : goal.returns
returns c = kept_end c.loop-steps.invariant c.loop-steps-test.false
