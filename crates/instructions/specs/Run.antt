-- docs/RULES.md, 12.2 and 7.3 (01, "Halts"): the run, the steps that it counts, the fresh state; 7.2 and 2.2 ("Numbers a call answers"):
-- the ill-formed state and the numbers.
use Rattle.std.specs.Prelude.{ℕ, zero, suc, ◌+◌, Bool, false, ◌&&◌, ◌||◌, not, List, length, replicate, leb, ltb, eqb}
use Rattle.rules.specs.declared.Screen.{Screen}
use Rattle.rules.specs.Folds.{bit, choose}
use Rattle.rules.specs.Sizes.{sound}
use Rattle.rules.specs.Numbers.{too_long}
use Rattle.instructions.specs.declared.State.{State}
use Rattle.instructions.specs.declared.Tree.{Tree}
use Rattle.instructions.specs.Opcodes.{Edition}
use Rattle.instructions.specs.Words.{register}
use Rattle.instructions.specs.Tree.{refuses_place}
use Rattle.instructions.specs.Step.{Machine, is_halted, next_halt, step}

-- "A run takes a count of steps allowed": it is each step in turn
unfoldable pub run : Edition → List ℕ → ℕ → Machine → Machine
run edition program zero m = m
run edition program (suc n) m = run edition program n (step edition program m)

-- a halting step "is not counted", and a halted state has none
unfoldable pub is_counted : Edition → List ℕ → Machine → Bool
is_counted edition program m = not (is_halted m) && eqb (next_halt edition program m) 0

-- "reports the steps carried out"
unfoldable pub steps : Edition → List ℕ → ℕ → Machine → ℕ
steps edition program zero m = 0
steps edition program (suc n) m = bit (is_counted edition program m) + steps edition program n (step edition program m)

-- "none of 0 and 11 to 17"
abbrev pub is_halt_number : ℕ → Bool
is_halt_number n = eqb n 0 || leb 11 n && leb n 17

-- "A state is ill-formed exactly if R0 is not 0, the halt number is none of 0 and 11 to 17, it has a screen that is not sound in this
-- RAM, or it has a tree and no screen, or a tree place that TREESET would refuse."
unfoldable pub ill_formed : ℕ → State → Bool
ill_formed ram_length s =
    not (eqb (register s.regs 0) 0)
    || not (is_halt_number s.halt)
    || s.shown && not (sound ram_length s.screen)
    || s.planted && not s.shown
    || s.planted && refuses_place s.screen s.tree.column s.tree.row

-- 1: "program longer than 1,024 words"; 2: "data memory not 1,024 words"; 3: "RAM longer than 4,194,304 bytes"; 4: "machine state
-- ill-formed". "The lowest number that applies .. wins."
unfoldable pub machine_number : ℕ → ℕ → ℕ → State → ℕ
machine_number program_length memory_length ram_length s =
    choose (ltb 1024 program_length) 1
    (choose (not (eqb memory_length 1024)) 2
    (choose (too_long ram_length) 3
    (choose (ill_formed ram_length s) 4 0)))

abbrev pub run_number : List ℕ → Machine → ℕ
run_number program m = machine_number (length program) (length m.memory) (length m.ram) m.state

-- "A fresh state has place 0, registers 0, flags clear, no screen, no tree, halt 0." What it has none of is all 0.
abbrev pub blank_screen : Screen
blank_screen = record { colour = 0; depth = 0; size = 0 }

abbrev pub blank_tree : Tree
blank_tree = record {
  column = 0;
  row = 0;
  inside = replicate 16 false;
  outside = replicate 16 false;
  colour = replicate 16 0;
  depth = replicate 16 0;
  held = false;
}

unfoldable pub fresh_state : State
fresh_state = record {
  regs = replicate 32 0;
  place = 0;
  negative = false;
  zero = false;
  halt = 0;
  shown = false;
  screen = blank_screen;
  planted = false;
  tree = blank_tree;
}
