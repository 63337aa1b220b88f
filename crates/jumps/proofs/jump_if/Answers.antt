-- The test is the definition's.
use mathlib.Core.Path.{◌∙◌}
use native.Mathlib.Omega.{arith}
use Rattle.jumps.proofs.Places.{jumps_to}
use Rattle.jumps.proofs.jump_if.Goals as goal

pub returns-then-test : goal.returns-then-test
returns-then-test c =
    let r = c.requires in
    jumps_to c.args.w _ c.args.cpu.now _ _ (c.address_in.ensures ∙ rw (r.defined, c.if-test.true)) c.jump.ensures
    (omega (arith, r.low)) r.high (λ e. omega (arith, r.low, e))

pub returns : goal.returns
returns c =
    let r = c.requires in
    jumps_to c.args.w _ c.args.cpu.now _ _ (rw (r.defined, c.if-test.false)) c.onward.ensures
    (omega (arith, r.low)) r.high (λ e. omega (arith, r.low, e))
