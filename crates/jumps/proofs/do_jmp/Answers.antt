-- JMP always goes.
use mathlib.Core.Path.{◌∙◌}
use native.Mathlib.Omega.{arith}
use Rattle.instructions.specs.Jumps.{goes}
use Rattle.jumps.proofs.Places.{jumps_to}
use Rattle.jumps.proofs.do_jmp.Goals as goal

pub returns : goal.returns
unfolding goes
returns c =
    let e = c.requires in
    jumps_to c.args.w _ c.args.cpu.now _ _ (c.address_in.ensures ∙ rw e) c.jump.ensures
    (omega (arith, e)) (omega (arith, e)) (λ q. omega (arith, e, q))
