-- Past TREEPUT there is no instruction, which is the halt 11. The other arms are left to the search: each arm's opcode is known, and its
-- function promises the step there.
use native.Mathlib.Omega.{arith}
use lib.ListN.{length}
use Rattle.instructions.specs.declared.Halt.TheVariants.{NoInstruction}
use Rattle.pieces.specs.Pieces.{joined}
use Rattle.pieces.proofs.Cases.{case-above}
use Rattle.pieces.proofs.Joined.{stops_by}
use Rattle.steps.proofs.arms.view_step.Goals as goal

pub returns-in_default : goal.returns-in_default
returns-in_default c =
    λ memory given.
    let a = c.args in
    stops_by a.regs.now.words a.cpu.now given a.view.now memory a.ram.now a.w NoInstruction
    (case-above (length a.ram.now) (joined a.regs.now.words a.cpu.now given a.view.now) a.w (omega (arith, c.opcode.ensures, c.requires.high)))
