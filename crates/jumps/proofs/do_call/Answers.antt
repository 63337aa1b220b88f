-- The address is that of the registers as they were; R31 gets the next place.
use mathlib.Core.Path.{◌∙◌}
use Rattle.instructions.specs.Jumps.{goes}
use Rattle.jumps.proofs.Places.{calls_to}
use Rattle.jumps.proofs.do_call.Goals as goal

pub returns : goal.returns
unfolding goes
returns c =
    calls_to c.args.w _ c.args.cpu.now _ _ (c.address_in-to.ensures ∙ rw c.requires.opcode) c.jump.ensures
    _ c.requires.opcode c.put.ensures
