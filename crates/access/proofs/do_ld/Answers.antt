-- An address above 1,023 is the halt 13; any other is in the data memory, and its word is the result.
use Prim.Native.Nat.{ℕ}
use mathlib.Core.Path.{sym, ◌∙◌, ap}
use lib.ListN.{length, get_or}
use Rattle.instructions.specs.Arithmetic.{sets_flags}
use Rattle.instructions.specs.Jumps.{is_jump}
use Rattle.pieces.specs.Pieces.{joined}
use Rattle.pieces.proofs.Cases.{case-LD}
use Rattle.pieces.proofs.Results.{result-LD}
use Rattle.pieces.proofs.Joined.{stops_with, puts_result}
use Rattle.access.proofs.do_ld.Goals as goal

pub returns-in_err-a : goal.returns-in_err-a
returns-in_err-a c =
    λ ram view given.
    let a = c.args in
    stops_with a.regs.now.words a.cpu.now given view a.memory.now ram a.w _ _ c.from_residual.ensures.1
    (case-LD (length ram) (joined a.regs.now.words a.cpu.now given view) a.w c.requires.opcode ∙ sym c.in_err-a.ensures.halt)

pub returns : goal.returns
returns c =
    λ ram view given.
    let a = c.args in
    let e = c.requires.opcode in
    puts_result a.regs.now.words a.cpu.now given view a.memory.now ram a.w _ _ _
    (case-LD (length ram) (joined a.regs.now.words a.cpu.now given view) a.w e ∙ sym c.in_ok-a.ensures.halt)
    (ap sets_flags e)
    (ap is_jump e)
    (ap (λ (i : ℕ). get_or a.memory.now i 0) c.in_ok-a.ensures.place.0
    ∙ sym (result-LD a.memory.now a.regs.now.words a.w e))
    c.put_result.ensures.registers c.put_result.ensures.cpu
