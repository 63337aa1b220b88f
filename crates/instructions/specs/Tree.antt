-- docs/RULES.md, 10 (01, "The tree"): "Sixteen leaves, each with marks I and O, a colour and a depth." Each instruction is told leaf by
-- leaf.
use Rattle.std.specs.Prelude.{ℕ, zero, suc, ◌+◌, ◌-◌, ◌*◌, ◌/◌, ◌%◌, ◌^◌, Bool, true, false, ◌&&◌, ◌||◌, not, List, [], ◌∷◌, get_or, ltb, eqb}
use Rattle.rules.specs.declared.Screen.{Screen}
use Rattle.rules.specs.Folds.{upto, choose}
use Rattle.ram.specs.Ram.{load_half, store_half}
use Rattle.rules.specs.Sizes.{width, height, colour_at, depth_at, put_pixel}
use Rattle.rules.specs.Triangles.{top_half, positive, negative}
use Rattle.instructions.specs.declared.Tree.{Tree}
use Rattle.instructions.specs.Words.{keep32, signed}

-- f 0, f 1, .., f (n - 1)
unfoldable pub each : {A : Type 0} → (ℕ → A) → ℕ → List A
each f zero = []
each f (suc n) = f 0 ∷ each (λ k. f (suc k)) n

abbrev pub leaves : {A : Type 0} → (ℕ → A) → List A
leaves f = each f 16

-- leaf k's marks, colour and depth
abbrev pub mark_i : Tree → ℕ → Bool
mark_i t k = get_or t.inside k false

abbrev pub mark_o : Tree → ℕ → Bool
mark_o t k = get_or t.outside k false

abbrev pub leaf_colour : Tree → ℕ → ℕ
leaf_colour t k = get_or t.colour k 0

abbrev pub leaf_depth : Tree → ℕ → ℕ
leaf_depth t k = get_or t.depth k 0

-- "r1 is the column, a multiple of 16 below the width; r2 the row, below the height": else TREESET refuses
unfoldable pub refuses_place : Screen → ℕ → ℕ → Bool
refuses_place s column row = not (eqb (column % 16) 0 && ltb column (width s.size) && ltb row (height s.size))

-- "r3 a mask, bit 15 for leaf 0, bit 0 for leaf 15, higher bits ignored"
unfoldable pub mask_bit : ℕ → ℕ → Bool
mask_bit mask k = eqb (mask / 2 ^ (15 - k) % 2) 1

-- "A leaf with its bit set starts at I = 1, O = 0, others at I = 0, O = 1; colours 0, no depth held."
unfoldable pub tree_set : ℕ → ℕ → ℕ → Tree
tree_set column row mask = record {
  column = column;
  row = row;
  inside = leaves (mask_bit mask);
  outside = leaves (λ k. not (mask_bit mask k));
  colour = leaves (λ k. 0);
  depth = leaves (λ k. 0);
  held = false;
}

-- "TREEIN and TREEVAL give leaf k the value r1 + k·r2 modulo 2^32": a and b are r1 and r2 at entry
unfoldable pub leaf_value : ℕ → ℕ → ℕ → ℕ
leaf_value a b k = keep32 (a + k * b)

-- "then add 16·r2 to r1"
abbrev pub past_leaves : ℕ → ℕ → ℕ
past_leaves a b = keep32 (a + 16 * b)

-- the tree with other marks, each told over the leaf number
unfoldable pub marked : (ℕ → Bool) → (ℕ → Bool) → Tree → Tree
marked inside_of outside_of t = record {
  column = t.column;
  row = t.row;
  inside = leaves inside_of;
  outside = leaves outside_of;
  colour = t.colour;
  depth = t.depth;
  held = t.held;
}

-- "TREEIN: a signed positive value clears I, a negative one sets O."
unfoldable pub tree_in : ℕ → ℕ → Tree → Tree
tree_in a b t =
    marked (λ k. mark_i t k && not (positive (signed (leaf_value a b k)))) (λ k. mark_o t k || negative (signed (leaf_value a b k))) t

-- "TREEVAL 0 holds the top half as depth"
unfoldable pub deepened : ℕ → ℕ → Tree → Tree
deepened a b t = record {
  column = t.column;
  row = t.row;
  inside = t.inside;
  outside = t.outside;
  colour = t.colour;
  depth = leaves (λ k. top_half (leaf_value a b k));
  held = true;
}

-- leaf k's pixel has the tree's row, and its column is k to the right of the tree's
abbrev pub stored_depth : Screen → List ℕ → Tree → ℕ → ℕ
stored_depth s ram t k = load_half ram (depth_at s (t.column + k) t.row)

-- "and, where it is above the stored depth, clears I and sets O"
abbrev pub too_deep : Screen → List ℕ → ℕ → ℕ → Tree → ℕ → Bool
too_deep s ram a b t k = ltb (stored_depth s ram t k) (top_half (leaf_value a b k))

unfoldable pub tree_depth : Screen → List ℕ → ℕ → ℕ → Tree → Tree
tree_depth s ram a b t =
    marked (λ k. mark_i t k && not (too_deep s ram a b t k)) (λ k. mark_o t k || too_deep s ram a b t k) (deepened a b t)

-- "Colour is red × 2048 + green × 32 + blue (5, 6, 5 bits)."
abbrev pub colour_of : ℕ → ℕ → ℕ → ℕ
colour_of red green blue = red * 2048 + green * 32 + blue

abbrev pub red_of : ℕ → ℕ
red_of c = c / 2048

abbrev pub green_of : ℕ → ℕ
green_of c = c / 32 % 64

abbrev pub blue_of : ℕ → ℕ
blue_of c = c % 32

-- "1, 2, 3 replace red, green, blue": "red and blue are bits 16 to 20, green bits 16 to 21"
unfoldable pub replaced : ℕ → ℕ → ℕ → ℕ
replaced kind v c =
    choose (eqb kind 1) (colour_of (top_half v % 32) (green_of c) (blue_of c))
    (choose (eqb kind 2) (colour_of (red_of c) (top_half v % 64) (blue_of c))
    (colour_of (red_of c) (green_of c) (top_half v % 32)))

unfoldable pub tree_colour : ℕ → ℕ → ℕ → Tree → Tree
tree_colour kind a b t = record {
  column = t.column;
  row = t.row;
  inside = t.inside;
  outside = t.outside;
  colour = leaves (λ k. replaced kind (leaf_value a b k) (leaf_colour t k));
  depth = t.depth;
  held = t.held;
}

-- TREEVAL, by its imm
unfoldable pub tree_val : ℕ → Screen → List ℕ → ℕ → ℕ → Tree → Tree
tree_val kind s ram a b t = choose (eqb kind 0) (tree_depth s ram a b t) (tree_colour kind a b t)

-- "TREEPUT writes each leaf with I = 1 or O = 0: its colour always, its depth only if one is held."
abbrev pub is_put : Tree → ℕ → Bool
is_put t k = mark_i t k || not (mark_o t k)

unfoldable pub leaf_put : Screen → Tree → ℕ → List ℕ → List ℕ
leaf_put s t k ram =
    choose (is_put t k)
    (choose t.held
    (put_pixel s (t.column + k) t.row (leaf_colour t k) (leaf_depth t k) ram)
    (store_half ram (colour_at s (t.column + k) t.row) (leaf_colour t k)))
    ram

unfoldable pub tree_put : Screen → Tree → List ℕ → List ℕ
tree_put s t ram = upto (leaf_put s t) 16 ram
