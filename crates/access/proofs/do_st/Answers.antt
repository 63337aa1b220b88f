-- An address above 1,023 is the halt 13; at any other the word is stored.
use Prim.Native.Nat.{ℕ}
use mathlib.Core.Path.{sym, ◌∙◌, ap₂}
use lib.ListN.{length, set}
use Rattle.pieces.specs.Pieces.{joined}
use Rattle.pieces.proofs.Cases.{case-ST}
use Rattle.pieces.proofs.Joined.{stops_with}
use Rattle.access.proofs.Accesses.{stores}
use Rattle.access.proofs.do_st.Goals as goal

pub returns-in_err-a : goal.returns-in_err-a
returns-in_err-a c =
    λ ram view given.
    let a = c.args in
    stops_with a.regs.now a.cpu.now given view a.memory.now ram a.w _ _ c.from_residual.ensures.1
    (case-ST (length ram) (joined a.regs.now a.cpu.now given view) a.w c.requires.opcode ∙ sym c.in_err-a.ensures.halt)

pub returns : goal.returns
returns c =
    λ ram view given.
    let a = c.args in
    stores a.regs.now a.cpu.now given view a.memory.now ram a.w _
    (case-ST (length ram) (joined a.regs.now a.cpu.now given view) a.w c.requires.opcode ∙ sym c.in_ok-a.ensures.halt)
    c.onward.ensures
    _ c.requires.opcode
    (ap₂ (λ (i v : ℕ). set a.memory.now i v) c.in_ok-a.ensures.place.0 c.in_r1.ensures)
