-- The state in the pieces in which a run holds it, put together again as the definitions have it.
use Rattle.std.specs.Prelude.{ℕ, ◌+◌, true, false, List}
use Rattle.rules.specs.declared.Screen.{Screen}
use Rattle.instructions.specs.declared.State.{State}
use Rattle.instructions.specs.declared.Tree.{Tree}
use Rattle.instructions.specs.Arithmetic.{negative_flag, zero_flag}
use Rattle.instructions.specs.Step.{Machine, together}
use Rattle.pieces.specs.declared.state.Cpu.{Cpu}
use Rattle.pieces.specs.declared.state.View.{View}

-- with the number of the halt, 0 for none
abbrev pub joined : List ℕ → Cpu → ℕ → View → State
joined regs cpu halt view = record {
  regs = regs;
  place = cpu.place;
  negative = cpu.negative;
  zero = cpu.zero;
  halt = halt;
  shown = view.shown;
  screen = view.screen;
  planted = view.planted;
  tree = view.tree;
}

abbrev pub machine : List ℕ → Cpu → ℕ → View → List ℕ → List ℕ → Machine
machine regs cpu halt view memory ram = together (joined regs cpu halt view) memory ram

-- the pieces of a state
abbrev pub cpu_of : State → Cpu
cpu_of s = record { place = s.place; negative = s.negative; zero = s.zero }

abbrev pub view_of : State → View
view_of s = record { shown = s.shown; planted = s.planted; screen = s.screen; tree = s.tree }

-- on to a place, and after a result
abbrev pub at : ℕ → Cpu → Cpu
at place cpu = record { place = place; negative = cpu.negative; zero = cpu.zero }

abbrev pub resulted : ℕ → Cpu → Cpu
resulted v cpu = record { place = cpu.place + 1; negative = negative_flag v; zero = zero_flag v }

-- SCRSET: a screen, and no tree; the TREE instructions: a tree
abbrev pub screened : Screen → View → View
screened screen view = record { shown = true; planted = false; screen = screen; tree = view.tree }

abbrev pub treed : Tree → View → View
treed tree view = record { shown = view.shown; planted = true; screen = view.screen; tree = tree }
