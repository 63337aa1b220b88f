-- A halt is the definition's; where there is none, the sixteen words fit both memories, and are those of the definition.
use Prim.Native.Nat.{ℕ}
use mathlib.Core.Path.{◌∙◌, ap₂}
use lib.ListN.{length}
use Rattle.instructions.specs.Moves.{words_written}
use Rattle.pieces.specs.Pieces.{joined}
use Rattle.pieces.proofs.Cases.{case-WRITE}
use Rattle.pieces.proofs.Joined.{stops_with}
use Rattle.access.proofs.Accesses.{halt_is, writes}
use Rattle.access.proofs.do_write.Goals as goal

pub returns-in_err-move_check : goal.returns-in_err-move_check
returns-in_err-move_check c =
    λ view given.
    let a = c.args in
    stops_with a.regs.now a.cpu.now given view a.memory.now a.ram.now a.w _ _ c.from_residual.ensures.1
    (halt_is a.regs.now a.cpu.now given view a.memory.now a.ram.now a.w
    (case-WRITE (length a.ram.now) (joined a.regs.now a.cpu.now given view) a.w c.requires.opcode)
    c.in_err-move_check.ensures c.in_r1-word.ensures c.in_r2-byte.ensures)

pub returns : goal.returns
returns c =
    λ view given.
    let a = c.args in
    writes a.regs.now a.cpu.now given view a.memory.now a.ram.now a.w _
    (halt_is a.regs.now a.cpu.now given view a.memory.now a.ram.now a.w
    (case-WRITE (length a.ram.now) (joined a.regs.now a.cpu.now given view) a.w c.requires.opcode)
    c.in_ok-move_check.ensures c.in_r1-word.ensures c.in_r2-byte.ensures)
    c.onward.ensures
    _ c.requires.opcode
    (c.write_words.ensures
    ∙ ap₂ (λ (i j : ℕ). words_written a.memory.now i j a.ram.now)
    c.in_r1-word.ensures c.in_r2-byte.ensures)
