-- The pieces that the run starts from join to the state given, which no number refuses.
use mathlib.Core.Path.{◌≡◌, sym, subst}
use Rattle.instructions.specs.Step.{together}
use Rattle.pieces.specs.Pieces.{machine}
use Rattle.runs.specs.Runs.{Ready}
use Rattle.runs.proofs.Invariant.{ready_facts}
use Rattle.machine.proofs.Numbered.{accepted_ready}
use Rattle.machine.proofs.calls.run_accepted.Goals as goal

pub invariant_of-regs : goal.invariant_of-regs
invariant_of-regs c = record { zero_register = (ready_facts (accepted_ready _ _ c.requires)).zero_register }

pub run-end-requires : goal.run-end-requires
run-end-requires c =
    let s = c.args.state in
    let memory = c.args.memory.now in
    let ram = c.args.ram.now in
    let pieces : machine s.regs c.from.result s.halt c.from-view.result memory ram ≡ together s memory ram =
    λ i. machine s.regs (c.from.ensures i) s.halt (c.from-view.ensures i) memory ram in
    subst (Ready _) (sym pieces) (accepted_ready _ _ c.requires)
