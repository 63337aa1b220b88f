-- Whatever the number, the channel made of it replaces what the definition does at that number.
use Prim.Native.Nat.{ℕ}
use mathlib.Core.Path.{◌≡◌, refl}
use mathlib.Core.Bool.{Bool, true, false}
use lib.Dec.{eqb}
use Rattle.rules.specs.Folds.{choose}
use Rattle.instructions.specs.declared.Tree.{Tree}
use Rattle.instructions.specs.Tree.{leaf_colour, leaf_value, leaves, replaced, tree_colour}
use Rattle.leaves.specs.declared.Channel.TheVariants.{Red, Green, Blue}
use Rattle.leaves.specs.Channels.{channel_number, channel_of}

by_channel : (red green : Bool) (x y z : ℕ) →
    let n = channel_number (choose red Red (choose green Green Blue)) in
    choose (eqb n 1) x (choose (eqb n 2) y z) ≡ choose red x (choose green y z)
by_channel true green x y z = refl
by_channel false true x y z = refl
by_channel false false x y z = refl

pub replaced_by_number : (kind v c : ℕ) → replaced (channel_number (channel_of kind)) v c ≡ replaced kind v c
unfolding replaced
replaced_by_number kind v c = by_channel (eqb kind 1) (eqb kind 2) _ _ _

pub coloured_by_number : (kind a b : ℕ) (t : Tree) → tree_colour (channel_number (channel_of kind)) a b t ≡ tree_colour kind a b t
unfolding tree_colour
coloured_by_number kind a b t =
    λ i. record {
      column = t.column;
      row = t.row;
      inside = t.inside;
      outside = t.outside;
      colour = leaves (λ k. replaced_by_number kind (leaf_value a b k) (leaf_colour t k) i);
      depth = t.depth;
      held = t.held;
    }
