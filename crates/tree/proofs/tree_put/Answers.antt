-- `tree_put` leaves `tree_put`. The loop's invariant: the first `k` leaves are put, which are the definition's first `k` passes; the leaves'
-- half-words stand side by side from the first on.
use Prim.Native.Nat.{ℕ, ◌+◌, ◌*◌}
use mathlib.Core.Path.{◌≡◌, sym, ◌∙◌, ap, ap₂}
use mathlib.Core.Bool.{true, false}
use native.Mathlib.Omega.{arith}
use Rattle.rules.specs.Sizes.{put_pixel}
use Rattle.rules.proofs.Folds.{upto-none, upto_more, upto_same}
use Rattle.instructions.specs.Tree.{is_put, leaf_put, tree_put}
use Rattle.tree.specs.Leaves.{stored}
use Rattle.tree.proofs.Standing.{colour_leaf_fits, depth_leaf_fits, colour-from, depth-from}
use Rattle.tree.proofs.tree_put.Invariants.{leaf_at}
use Rattle.tree.proofs.tree_put.Goals.{then-tree-k, else-tree-k}
use Rattle.tree.proofs.tree_put.Goals as goal

pub loop-k-init : goal.loop-k-init
loop-k-init c = sym (upto-none _ _)

-- the leaf's half-words are in the RAM
pub overflow_add-colour : goal.overflow_add-colour
overflow_add-colour c =
    let h = c.loop-k-test.true in
    omega (arith, colour-from c.requires c.colour_at-colour.ensures h, colour_leaf_fits c.requires h)

pub overflow_add-depth : goal.overflow_add-depth
overflow_add-depth c =
    let h = c.loop-k-test.true in
    omega (arith, depth-from c.requires c.depth_at-depth.ensures h, depth_leaf_fits c.requires h)

pub store_leaf-requires : goal.store_leaf-requires
store_leaf-requires c =
    let h = c.loop-k-test.true in
    record {
      colour_fits = omega (arith, colour-from c.requires c.colour_at-colour.ensures h, colour_leaf_fits c.requires h);
      depth_fits = omega (arith, depth-from c.requires c.depth_at-depth.ensures h, depth_leaf_fits c.requires h);
    }

-- one more leaf, put or not
pub loop-k-preserved : goal.loop-k-preserved
loop-k-preserved c =
    let l = c.loop-k in
    let t = c.args.tree.now in
    let colour = c.colour_at-colour.result in
    let depth = c.depth_at-depth.result in
    let one : c.if-tree-k.ram ≡ leaf_at t (colour + 2 * l.k) (depth + 2 * l.k) l.k l.ram =
    elim c.if-tree-k.branch [
      | then-tree-k w ↦ let put : is_put t l.k ≡ true = w.if-tree-k.true in rw (put, w.ram-is) w.store_leaf.ensures
      | else-tree-k w ↦ let left : is_put t l.k ≡ false = w.if-tree-k.false in rw left w.ram-is
    ] in
    one
    ∙ ap (leaf_at t (colour + 2 * l.k) (depth + 2 * l.k) l.k) l.invariant
    ∙ sym (upto_more (λ i. leaf_at t (colour + 2 * i) (depth + 2 * i) i) l.k c.args.ram.now)

pub returns : goal.returns
unfolding leaf_put put_pixel stored tree_put
returns c =
    let l = c.loop-k in
    let a = c.args in
    let t = a.tree.now in
    let e : l.k ≡ 16 = omega arith in
    (rw e at l.invariant)
    ∙ upto_same _ (leaf_put a.s t) 16 a.ram.now
    (λ k m h. ap₂ (λ (colour depth : ℕ). leaf_at t colour depth k m)
    (colour-from c.requires c.colour_at-colour.ensures h)
    (depth-from c.requires c.depth_at-depth.ensures h))
