-- ST, READ and WRITE: what they leave in the memories is the definition's effect; and a move that no case halts fits.
use Prim.Native.Nat.{ℕ, ◌+◌, ◌%◌, ◌≤◌}
use mathlib.Core.Path.{◌≡◌, sym, ◌∙◌, ap, ap₂}
use mathlib.Core.Bool.{false, ◌||◌, not}
use mathlib.Core.List.{List}
use lib.ListN.{length, set}
use lib.Dec.{ltb, eqb}
use borrow.Author.Tests.{ltb-false}
use Rattle.instructions.specs.Opcodes.{current, ST, READ, WRITE}
use Rattle.instructions.specs.Words.{opcode, in_r1, in_r2, address}
use Rattle.instructions.specs.Jumps.{is_jump}
use Rattle.instructions.specs.Moves.{words_read, words_written}
use Rattle.instructions.specs.Halts.{word_halt}
use Rattle.instructions.specs.Step.{Machine, after_st, after_read, after_write, effect}
use Rattle.instructions.proofs.Effects.{effect-ST, effect-READ, effect-WRITE}
use Rattle.instructions.proofs.Picks.{no_case, or_none}
use Rattle.pieces.specs.declared.state.Cpu.{Cpu}
use Rattle.pieces.specs.declared.state.View.{View}
use Rattle.pieces.specs.Pieces.{joined, machine, at}
use Rattle.pieces.specs.Steps.{stepped}
use Rattle.pieces.proofs.Joined.{goes_onward}
use Rattle.moves.specs.Halts.{move_halt}

pub move_fits : (ram_length word byte : ℕ) → move_halt ram_length word byte ≡ 0 → (word ≤ 1008) × (byte + 64 ≤ ram_length)
move_fits ram_length word byte e =
    let (a, e1) = no_case 14 (ltb 1008 word) e in
    let (b, e2) = no_case 15 (not (eqb (byte % 4) 0) || ltb ram_length (byte + 64)) e1 in
    let (c, d) = or_none (not (eqb (byte % 4) 0)) (ltb ram_length (byte + 64)) b in
    (ltb-false 1008 word a, ltb-false ram_length (byte + 64) d)

module _ (regs : List ℕ) (cpu : Cpu) (given : ℕ) (view : View) (memory ram : List ℕ) (w : ℕ) where
  abbrev before : Machine
  before = machine regs cpu given view memory ram

  -- a move's halt is the one that its addresses give
  pub halt_is : {halt word byte : ℕ}
      → word_halt current (length ram) (joined regs cpu given view) w ≡ move_halt (length ram) (in_r1 regs w) (in_r2 regs w)
      → halt ≡ move_halt (length ram) word byte
      → word ≡ in_r1 regs w
      → byte ≡ in_r2 regs w
      → word_halt current (length ram) (joined regs cpu given view) w ≡ halt
  halt_is e k p q = e ∙ sym (k ∙ ap₂ (move_halt (length ram)) p q)

  -- the next place, with other memories
  module _ (cpu' : Cpu) (z : word_halt current (length ram) (joined regs cpu given view) w ≡ 0) (hc : cpu' ≡ at (cpu.place + 1) cpu) where
    onward : (memory' ram' : List ℕ)
        → is_jump (opcode w) ≡ false
        → effect before w ≡ machine regs cpu given view memory' ram'
        → machine regs cpu' given view memory' ram' ≡ stepped before w
    onward memory' ram' j e =
        ap (λ (x : Cpu). machine regs x given view memory' ram') hc ∙ goes_onward regs cpu given view memory ram w regs cpu given view memory' ram' z j e

    pub stores : (memory' : List ℕ)
        → opcode w ≡ ST
        → memory' ≡ set memory (address regs w) (in_r1 regs w)
        → machine regs cpu' given view memory' ram ≡ stepped before w
    unfolding after_st
    stores memory' e h =
        onward memory' ram (ap is_jump e) (effect-ST before w e ∙ ap (λ l. machine regs cpu given view l ram) (sym h))

    pub reads : (memory' : List ℕ)
        → opcode w ≡ READ
        → memory' ≡ words_read ram (in_r1 regs w) (in_r2 regs w) memory
        → machine regs cpu' given view memory' ram ≡ stepped before w
    unfolding after_read
    reads memory' e h =
        onward memory' ram (ap is_jump e) (effect-READ before w e ∙ ap (λ l. machine regs cpu given view l ram) (sym h))

    pub writes : (ram' : List ℕ)
        → opcode w ≡ WRITE
        → ram' ≡ words_written memory (in_r1 regs w) (in_r2 regs w) ram
        → machine regs cpu' given view memory ram' ≡ stepped before w
    unfolding after_write
    writes ram' e h =
        onward memory ram' (ap is_jump e) (effect-WRITE before w e ∙ ap (λ l. machine regs cpu given view memory l) (sym h))
