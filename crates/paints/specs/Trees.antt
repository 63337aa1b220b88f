-- A tree's sixteen pixels, and what TREEPUT paints on them.
use Rattle.std.specs.Prelude.{ℕ, ◌+◌, ◌-◌, Bool, ◌&&◌, List, leb, ltb, eqb}
use Rattle.rules.specs.declared.Screen.{Screen}
use Rattle.rules.specs.Triangles.{top_half}
use Rattle.instructions.specs.declared.Tree.{Tree}
use Rattle.instructions.specs.Tree.{leaf_colour, leaf_depth, leaf_value, is_put}
use Rattle.paints.specs.Paint.{pixel_depth, Paint}

-- leaf k's pixel has the tree's row, and its column is k to the right of the tree's
abbrev pub leaf_column : Tree → ℕ → ℕ
leaf_column t k = t.column + k

-- (x, y) is one of the sixteen, and which leaf's
abbrev pub under_tree : Tree → ℕ → ℕ → Bool
under_tree t x y = eqb y t.row && leb t.column x && ltb x (t.column + 16)

abbrev pub leaf_of : Tree → ℕ → ℕ
leaf_of t x = x - t.column

-- "TREEPUT writes each leaf with I = 1 or O = 0: its colour always, its depth only if one is held."
abbrev pub leaf_colours : Tree → Paint
leaf_colours t = record {
  picks = λ x y. under_tree t x y && is_put t (leaf_of t x);
  value = λ x y. leaf_colour t (leaf_of t x);
}

abbrev pub leaf_depths : Tree → Paint
leaf_depths t = record {
  picks = λ x y. under_tree t x y && is_put t (leaf_of t x) && t.held;
  value = λ x y. leaf_depth t (leaf_of t x);
}

-- TREEVAL 0's judgement of leaf k: its value's top half "is above the stored depth" of its pixel
abbrev pub behind_pixel : Screen → List ℕ → Tree → ℕ → ℕ → ℕ → Bool
behind_pixel s m t a b k = ltb (pixel_depth s m (leaf_column t k) t.row) (top_half (leaf_value a b k))
