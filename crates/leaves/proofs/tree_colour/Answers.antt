-- `tree_colour` leaves the tree of TREEVAL 1, 2 and 3: the colours are told leaf by leaf, and all else of the tree stays.
use Rattle.std.proofs.Common.{rules}
use Rattle.instructions.specs.Tree.{leaf_colour, leaf_value, replaced, tree_colour}
use Rattle.leaves.specs.Channels.{channel_number}
use Rattle.instructions.proofs.Made.{made_leaves}
use Rattle.leaves.proofs.tree_colour.Goals as goal

pub returns : goal.returns
unfolding tree_colour
returns c =
    let a = c.args in
    let t = a.tree.now in
    let colour = made_leaves (λ k. replaced (channel_number a.channel) (leaf_value a.a a.b k) (leaf_colour t k)) 0
    c.from_fn-tree.ensures.items
    (λ p q k x e h. (search rules, search rules)) in
    λ i. record {
      column = t.column;
      row = t.row;
      inside = t.inside;
      outside = t.outside;
      colour = colour i;
      depth = t.depth;
      held = t.held;
    }
