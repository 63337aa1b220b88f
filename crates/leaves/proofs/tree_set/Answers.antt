-- `tree_set` gives TREESET's tree: the marks are the mask's bits, leaf by leaf.
use Rattle.std.proofs.Common.{rules, ◌≡◌, ◌∙◌, ap, ℕ, Bool, true, false, not, refl, get_or, replicate}
use Rattle.instructions.specs.Tree.{each, leaves, mask_bit, tree_set}
use Rattle.instructions.proofs.Leaves.{leaf_at_lem, leaves_same}
use Rattle.instructions.proofs.Made.{made_leaves}
use Rattle.leaves.proofs.tree_set.Goals as goal

not_not : (b : Bool) → not (not b) ≡ b
not_not true = refl
not_not false = refl

pub returns : goal.returns
unfolding each tree_set
returns c =
    let a = c.args in
    let o : ℕ → Bool = λ k. not (mask_bit a.mask k) in
    let marks = c.from_fn-outside.result in
    let outside : marks ≡ leaves o = made_leaves o false c.from_fn-outside.ensures.items (λ p q k x e h. (search rules, search rules)) in
    let inside = made_leaves (λ k. not (get_or marks k false)) false c.from_fn.ensures.items (λ p q k x e h. (search rules, search rules))
    ∙ leaves_same (λ k h. ap not (ap (λ l. get_or l k false) outside ∙ leaf_at_lem o false h) ∙ not_not (mask_bit a.mask k)) in
    λ i. record {
      column = a.column;
      row = a.row;
      inside = inside i;
      outside = outside i;
      colour = replicate 16 0;
      depth = replicate 16 0;
      held = false;
    }
