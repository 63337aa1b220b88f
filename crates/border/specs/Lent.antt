-- The state as C has it, and the state that it stands for: 0 is no, any other number is yes, and yes is answered as 1.
use Rattle.std.specs.Prelude.{ℕ, Bool, false, not, List, eqb, get_or}
use Rattle.rules.specs.Folds.{choose}
use Rattle.instructions.specs.declared.Tree.{Tree}
use Rattle.instructions.specs.declared.State.{State}
use Rattle.instructions.specs.Tree.{leaves}
use Rattle.border.specs.declared.LentTree.{LentTree}
use Rattle.border.specs.declared.LentState.{LentState}

abbrev pub is_yes : ℕ → Bool
is_yes n = not (eqb n 0)

abbrev pub number_of : Bool → ℕ
number_of b = choose b 1 0

abbrev pub marks_of : List ℕ → List Bool
marks_of bytes = leaves (λ k. is_yes (get_or bytes k 0))

abbrev pub bytes_of : List Bool → List ℕ
bytes_of marks = leaves (λ k. number_of (get_or marks k false))

abbrev pub tree_of : LentTree → Tree
tree_of t = record {
  column = t.column;
  row = t.row;
  inside = marks_of t.inside;
  outside = marks_of t.outside;
  colour = t.colour;
  depth = t.depth;
  held = is_yes t.held;
}

abbrev pub lent_tree : Tree → LentTree
lent_tree t = record {
  column = t.column;
  row = t.row;
  inside = bytes_of t.inside;
  outside = bytes_of t.outside;
  colour = t.colour;
  depth = t.depth;
  held = number_of t.held;
}

abbrev pub state_of : LentState → State
state_of s = record {
  regs = s.regs;
  place = s.place;
  negative = is_yes s.negative;
  zero = is_yes s.zero;
  halt = s.halt;
  shown = is_yes s.shown;
  screen = s.screen;
  planted = is_yes s.planted;
  tree = tree_of s.tree;
}

abbrev pub lent_state : State → LentState
lent_state s = record {
  regs = s.regs;
  place = s.place;
  negative = number_of s.negative;
  zero = number_of s.zero;
  halt = s.halt;
  shown = number_of s.shown;
  screen = s.screen;
  planted = number_of s.planted;
  tree = lent_tree s.tree;
}
