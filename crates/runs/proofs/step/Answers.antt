-- Past the program it is the halt 12; in it the word is the program's at the place, and its step is the definition's.
use Prim.Native.Nat.{◌<◌}
use mathlib.Core.Path.{◌≡◌, refl, ◌∙◌, ap}
use native.Mathlib.Omega.{arith}
use lib.ListN.{length, get_or}
use Rattle.instructions.specs.Answers.{halt_of}
use Rattle.instructions.specs.Opcodes.{current}
use Rattle.instructions.specs.Step.{step}
use Rattle.pieces.specs.Pieces.{machine}
use Rattle.pieces.specs.Steps.{stepped}
use Rattle.pieces.proofs.Joined.{halt_after_none}
use Rattle.runs.proofs.Invariant.{stops_past, step_at, ready_shows}
use Rattle.runs.proofs.step.Goals.{After-opcode}
use Rattle.runs.proofs.step.Goals as goal

pub returns-in_err-w : goal.returns-in_err-w
returns-in_err-w c =
    let a = c.args in
    let past = rw c.in_err-w.ensures.ok_part at c.get.ensures.lookup in
    stops_past a.program.now a.regs.now.words a.cpu.now a.view.now a.memory.now a.ram.now _ _ c.from_residual.ensures.1
    (rw c.in_err-w.ensures.ok_part at (ap halt_of c.in_err-w.ensures.value)) past.3

-- where the place is, and what the program has there
found : (c : After-opcode)
    → (c.args.cpu.now.place < length c.args.program.now) × (c.in_ok-w.field-0.now ≡ get_or c.args.program.now c.args.cpu.now.place 0)
found c =
    let h = rw c.in_ok-w.ensures.ok_part at c.get.ensures.lookup in
    (h.3.0, h.3.1 0)

is_step : (c : After-opcode) →
    let a = c.args in
    let m = machine a.regs.now.words a.cpu.now 0 a.view.now a.memory.now a.ram.now in
    stepped m c.in_ok-w.field-0.now ≡ step current a.program.now m
is_step c = step_at _ _ refl _ (found c).1 (found c).0

pub returns-then-opcode-le-WRITE : goal.returns-then-opcode-le-WRITE
returns-then-opcode-le-WRITE c =
    (rw (halt_after_none (halt_of c.plain_step.result)) at (c.plain_step.ensures c.args.view.now 0))
    ∙ is_step (goal.at.returns-then-opcode-le-WRITE c).After-opcode

pub view_step-requires : goal.view_step-requires
view_step-requires c = record {
  high = omega (arith, c.opcode.ensures, c.if-opcode-le-WRITE.false);
  inside = omega (arith, c.requires.short, (found (goal.at.view_step-requires c).After-opcode).0);
  shows = ready_shows c.requires;
}

pub returns : goal.returns
returns c =
    (rw (halt_after_none (halt_of c.view_step.result)) at (c.view_step.ensures c.args.memory.now 0))
    ∙ is_step (goal.at.returns c).After-opcode
