-- `tree_in` leaves TREEIN's tree: the marks are told leaf by leaf, and all else of the tree stays.
use Rattle.std.proofs.Common.{rules, ℕ, false, ◌&&◌, ◌||◌, not}
use Rattle.rules.specs.Triangles.{positive, negative}
use Rattle.instructions.specs.Words.{signed}
use Rattle.instructions.specs.Tree.{mark_i, mark_o, leaf_value, marked, tree_in}
use Rattle.instructions.proofs.Made.{made_leaves}
use Rattle.leaves.proofs.tree_in.Goals as goal

pub returns : goal.returns
unfolding marked tree_in
returns c =
    let t = c.args.tree.now in
    let v = λ (k : ℕ). signed (leaf_value c.args.a c.args.b k) in
    let inside = made_leaves (λ k. mark_i t k && not (positive (v k))) false c.from_fn-tree.ensures.items
    (λ p q k x e h. (search rules, search rules)) in
    let outside = made_leaves (λ k. mark_o t k || negative (v k)) false c.from_fn-tree-2.ensures.items
    (λ p q k x e h. (search rules, search rules)) in
    λ i. record {
      column = t.column;
      row = t.row;
      inside = inside i;
      outside = outside i;
      colour = t.colour;
      depth = t.depth;
      held = t.held;
    }
