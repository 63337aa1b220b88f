-- The state that an answered one stands for is the state itself: what C has of it loses nothing. That the marks are sixteen is asked for,
-- and holds of every state that a call reads (`lent-marks`) and so of every state that it answers, since a run keeps them.
use mathlib.Core.Path.{◌≡◌, refl, ◌∙◌, ap}
use mathlib.Core.Bool.{Bool, true, false}
use mathlib.Core.List.{List, [], ◌∷◌}
use lib.ListN.{length, get_or}
use Rattle.instructions.specs.declared.Tree.{Tree}
use Rattle.instructions.specs.declared.State.{State}
use Rattle.instructions.specs.Tree.{each}
use Rattle.instructions.proofs.Leaves.{length-each, leaf_at_lem, leaves_same}
use Rattle.instructions.proofs.Lengths.{SixteenMarks}
use Rattle.border.specs.declared.LentState.{LentState}
use Rattle.border.specs.Lent.{is_yes, number_of, marks_of, bytes_of, tree_of, lent_tree, state_of, lent_state}

-- a list is its own elements in order
each_own : {A : Type 0} (l : List A) (d : A) → each (λ k. get_or l k d) (length l) ≡ l
unfolding each
each_own [] d = refl
each_own (x ∷ l) d = ap (λ t. x ∷ t) (each_own l d)

-- the state that a call reads
pub lent-marks : (s : LentState) → SixteenMarks (state_of s).tree
lent-marks s = record { marks_i = length-each _ 16; marks_o = length-each _ 16 }

yes_back : (b : Bool) → is_yes (number_of b) ≡ b
yes_back true = refl
yes_back false = refl

marks_back : (marks : List Bool) → length marks ≡ 16 → marks_of (bytes_of marks) ≡ marks
marks_back marks h =
    leaves_same {f = λ k. is_yes (get_or (bytes_of marks) k 0)} {g = λ k. get_or marks k false}
    (λ k l. ap is_yes (leaf_at_lem (λ i. number_of (get_or marks i false)) 0 l) ∙ yes_back (get_or marks k false))
    ∙ (rw h at (each_own marks false))

tree_back : (t : Tree) → SixteenMarks t → tree_of (lent_tree t) ≡ t
tree_back t h = λ i. record {
  column = t.column;
  row = t.row;
  inside = marks_back t.inside h.marks_i i;
  outside = marks_back t.outside h.marks_o i;
  colour = t.colour;
  depth = t.depth;
  held = yes_back t.held i;
}

pub state_back : (s : State) → SixteenMarks s.tree → state_of (lent_state s) ≡ s
state_back s h = λ i. record {
  regs = s.regs;
  place = s.place;
  negative = yes_back s.negative i;
  zero = yes_back s.zero i;
  halt = s.halt;
  shown = yes_back s.shown i;
  screen = s.screen;
  planted = yes_back s.planted i;
  tree = tree_back s.tree h i;
}
