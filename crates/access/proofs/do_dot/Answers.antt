-- A start above 1,020 is the halt 13; from any other four words are read on each side.
use Prim.Native.Nat.{ℕ}
use mathlib.Core.Path.{sym, ◌∙◌, ap, ap₂}
use mathlib.Core.Bool.{Bool, ◌||◌}
use lib.ListN.{length}
use lib.Dec.{ltb}
use Rattle.rules.specs.Folds.{choose}
use Rattle.instructions.specs.declared.Halt.TheVariants.{OutsideData}
use Rattle.instructions.specs.Arithmetic.{sets_flags, dot}
use Rattle.instructions.specs.Jumps.{is_jump}
use Rattle.pieces.specs.Pieces.{joined}
use Rattle.pieces.proofs.Cases.{case-DOT}
use Rattle.pieces.proofs.Results.{result-DOT}
use Rattle.pieces.proofs.Joined.{stops_by, puts_result}
use Rattle.access.proofs.do_dot.Goals as goal

-- what the test says, of what the registers hold
abbrev above : ℕ → ℕ → Bool
above a b = ltb 1020 a || ltb 1020 b

pub returns-then-a-b : goal.returns-then-a-b
returns-then-a-b c =
    λ ram view given.
    let a = c.args in
    stops_by a.regs.now.words a.cpu.now given view a.memory.now ram a.w OutsideData
    (case-DOT (length ram) (joined a.regs.now.words a.cpu.now given view) a.w c.requires.opcode
    ∙ ap (λ (t : Bool). choose t 13 0) (sym (ap₂ above c.in_r2-a.ensures c.in_r3-b.ensures) ∙ c.if-a-b.true))

pub returns : goal.returns
returns c =
    λ ram view given.
    let a = c.args in
    let e = c.requires.opcode in
    puts_result a.regs.now.words a.cpu.now given view a.memory.now ram a.w _ _ _
    (case-DOT (length ram) (joined a.regs.now.words a.cpu.now given view) a.w e
    ∙ ap (λ (t : Bool). choose t 13 0) (sym (ap₂ above c.in_r2-a.ensures c.in_r3-b.ensures) ∙ c.if-a-b.false))
    (ap sets_flags e)
    (ap is_jump e)
    (c.dot-v.ensures
    ∙ ap₂ (dot a.memory.now) c.in_r2-a.ensures c.in_r3-b.ensures
    ∙ sym (result-DOT a.memory.now a.regs.now.words a.w e))
    c.put_result.ensures.registers c.put_result.ensures.cpu
