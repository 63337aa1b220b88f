-- docs/RULES.md, 8.2, 9.1, 9.4 to 9.6 and 12.1: one step, what each instruction does to the state, the data memory and the RAM, which is
-- all that a step touches.
use Rattle.std.specs.Prelude.{ℕ, Bool, true, false, not, List, length, set, eqb}
use Rattle.rules.specs.declared.Screen.{Screen}
use Rattle.rules.specs.Folds.{choose}
use Rattle.rules.specs.Calls.{cleared}
use Rattle.instructions.specs.declared.State.{State}
use Rattle.instructions.specs.declared.Tree.{Tree}
use Rattle.instructions.specs.Opcodes.{ST, CALL, READ, WRITE, SCRSET, CLS, TREESET, TREEIN, TREEVAL, TREEPUT, Edition}
use Rattle.instructions.specs.Words.{opcode, r1, imm, in_r1, in_r2, in_r3, with_register, address}
use Rattle.instructions.specs.Arithmetic.{low_half, result, sets_flags, negative_flag, zero_flag}
use Rattle.instructions.specs.Jumps.{following, next_place}
use Rattle.instructions.specs.Moves.{words_read, words_written}
use Rattle.instructions.specs.Tree.{tree_set, tree_in, tree_val, tree_put, past_leaves}
use Rattle.instructions.specs.Halts.{word_at, screen_set, halt_number}

pub record Machine : Type 0 where
  pub state : State
  pub memory : List ℕ
  pub ram : List ℕ

abbrev pub together : State → List ℕ → List ℕ → Machine
together s memory ram = record { state = s; memory = memory; ram = ram }

-- one field replaced, all else kept
abbrev pub with_state : State → Machine → Machine
with_state s m = record { state = s; memory = m.memory; ram = m.ram }

abbrev pub with_memory : List ℕ → Machine → Machine
with_memory l m = record { state = m.state; memory = l; ram = m.ram }

abbrev pub with_ram : List ℕ → Machine → Machine
with_ram l m = record { state = m.state; memory = m.memory; ram = l }

unfoldable pub with_registers : List ℕ → State → State
with_registers regs s = record {
  regs = regs;
  place = s.place;
  negative = s.negative;
  zero = s.zero;
  halt = s.halt;
  shown = s.shown;
  screen = s.screen;
  planted = s.planted;
  tree = s.tree;
}

unfoldable pub with_place : ℕ → State → State
with_place place s = record {
  regs = s.regs;
  place = place;
  negative = s.negative;
  zero = s.zero;
  halt = s.halt;
  shown = s.shown;
  screen = s.screen;
  planted = s.planted;
  tree = s.tree;
}

unfoldable pub with_flags : ℕ → State → State
with_flags v s = record {
  regs = s.regs;
  place = s.place;
  negative = negative_flag v;
  zero = zero_flag v;
  halt = s.halt;
  shown = s.shown;
  screen = s.screen;
  planted = s.planted;
  tree = s.tree;
}

unfoldable pub with_halt : ℕ → State → State
with_halt number s = record {
  regs = s.regs;
  place = s.place;
  negative = s.negative;
  zero = s.zero;
  halt = number;
  shown = s.shown;
  screen = s.screen;
  planted = s.planted;
  tree = s.tree;
}

-- SCRSET "drops the tree": its fields stay, and mean nothing
unfoldable pub with_screen : Screen → State → State
with_screen screen s = record {
  regs = s.regs;
  place = s.place;
  negative = s.negative;
  zero = s.zero;
  halt = s.halt;
  shown = true;
  screen = screen;
  planted = false;
  tree = s.tree;
}

unfoldable pub with_tree : Tree → State → State
with_tree tree s = record {
  regs = s.regs;
  place = s.place;
  negative = s.negative;
  zero = s.zero;
  halt = s.halt;
  shown = s.shown;
  screen = s.screen;
  planted = true;
  tree = tree;
}

-- LD, LI to ASRI, DOT: r1 gets the result and the flags follow it
unfoldable pub after_result : Machine → ℕ → Machine
after_result m w =
    let s = m.state in
    let v = result m.memory s.regs w in
    with_state (with_flags v (with_registers (with_register s.regs (r1 w) v) s)) m

-- ST: r1 goes to the data address
unfoldable pub after_st : Machine → ℕ → Machine
after_st m w = with_memory (set m.memory (address m.state.regs w) (in_r1 m.state.regs w)) m

-- "CALL puts the next place in R31 after address is worked out (house)."
unfoldable pub after_call : Machine → Machine
after_call m = with_state (with_registers (with_register m.state.regs 31 (following m.state)) m.state) m

unfoldable pub after_read : Machine → ℕ → Machine
after_read m w = with_memory (words_read m.ram (in_r1 m.state.regs w) (in_r2 m.state.regs w) m.memory) m

unfoldable pub after_write : Machine → ℕ → Machine
after_write m w = with_ram (words_written m.memory (in_r1 m.state.regs w) (in_r2 m.state.regs w) m.ram) m

-- "SCRSET: colour start r1, depth start r2, S = imm; it drops the tree."
unfoldable pub after_scrset : Machine → ℕ → Machine
after_scrset m w = with_state (with_screen (screen_set m.state.regs w) m.state) m

-- "CLS fills colour with the low half of r1 and depth with that of r2."
unfoldable pub after_cls : Machine → ℕ → Machine
after_cls m w =
    let s = m.state in
    with_ram (cleared s.screen (low_half (in_r1 s.regs w)) (low_half (in_r2 s.regs w)) m.ram) m

unfoldable pub after_treeset : Machine → ℕ → Machine
after_treeset m w =
    let s = m.state in
    with_state (with_tree (tree_set (in_r1 s.regs w) (in_r2 s.regs w) (in_r3 s.regs w)) s) m

-- TREEIN and TREEVAL: the tree, "using register contents at entry, then add 16·r2 to r1"
unfoldable pub grown : State → ℕ → Tree → State
grown s w tree =
    with_tree tree (with_registers (with_register s.regs (r1 w) (past_leaves (in_r1 s.regs w) (in_r2 s.regs w))) s)

unfoldable pub after_treein : Machine → ℕ → Machine
after_treein m w =
    let s = m.state in
    with_state (grown s w (tree_in (in_r1 s.regs w) (in_r2 s.regs w) s.tree)) m

unfoldable pub after_treeval : Machine → ℕ → Machine
after_treeval m w =
    let s = m.state in
    with_state (grown s w (tree_val (imm w) s.screen m.ram (in_r1 s.regs w) (in_r2 s.regs w) s.tree)) m

-- "The tree stays."
unfoldable pub after_treeput : Machine → Machine
after_treeput m = with_ram (tree_put m.state.screen m.state.tree m.ram) m

-- what the instruction w does, but for the place; a jump other than CALL does nothing else
unfoldable pub effect : Machine → ℕ → Machine
effect m w =
    choose (sets_flags (opcode w)) (after_result m w)
    (choose (eqb (opcode w) ST) (after_st m w)
    (choose (eqb (opcode w) CALL) (after_call m)
    (choose (eqb (opcode w) READ) (after_read m w)
    (choose (eqb (opcode w) WRITE) (after_write m w)
    (choose (eqb (opcode w) SCRSET) (after_scrset m w)
    (choose (eqb (opcode w) CLS) (after_cls m w)
    (choose (eqb (opcode w) TREESET) (after_treeset m w)
    (choose (eqb (opcode w) TREEIN) (after_treein m w)
    (choose (eqb (opcode w) TREEVAL) (after_treeval m w)
    (choose (eqb (opcode w) TREEPUT) (after_treeput m)
    m))))))))))

-- the effect, then on to the next place
unfoldable pub performed : Machine → ℕ → Machine
performed m w = with_state (with_place (next_place m.state w) (effect m w).state) (effect m w)

abbrev pub is_halted : Machine → Bool
is_halted m = not (eqb m.state.halt 0)

abbrev pub next_halt : Edition → List ℕ → Machine → ℕ
next_halt edition program m = halt_number edition program (length m.ram) m.state

-- "A halting step changes only the halt number"; "A halted state .. stays"
unfoldable pub step : Edition → List ℕ → Machine → Machine
step edition program m =
    choose (is_halted m) m
    (choose (eqb (next_halt edition program m) 0) (performed m (word_at program m.state))
    (with_state (with_halt (next_halt edition program m) m.state) m))
