-- `tree_depth` leaves TREEVAL 0's tree: the marks and the depths are told leaf by leaf, and all else of the tree stays. The half-words that it
-- judges by are the leaves' stored depths, which stand side by side.
use Rattle.std.proofs.Common.{rules, arith, ◌∙◌, ap, ap₂, ◌≡◌, ℕ, ◌+◌, ◌*◌, ◌/◌, ◌<◌, true, false, ◌&&◌, ◌||◌, not, get_or, nat_lt}
use Rattle.ram.specs.Ram.{load_half}
use Rattle.rules.specs.Triangles.{top_half}
use Rattle.instructions.specs.Tree.{leaves, mark_i, mark_o, marked, deepened, leaf_value, too_deep, tree_depth}
use Rattle.instructions.proofs.Leaves.{leaf_at_lem, leaves_same}
use Rattle.instructions.proofs.Made.{made_leaves}
use Rattle.tree.proofs.Standing.{depth_leaf_fits, depth-from}
use Rattle.tree.proofs.tree_depth.Goals as goal

pub load_halves-found-requires : goal.load_halves-found-requires
load_halves-found-requires c =
    omega (
      arith,
      depth-from c.requires {k = 15} c.depth_at.ensures (omega arith),
      depth_leaf_fits c.requires {k = 15} (omega arith),
    )

pub returns : goal.returns
unfolding deepened marked top_half tree_depth
returns c =
    let a = c.args in
    let t = a.tree.now in
    let z : ℕ → ℕ = λ k. leaf_value a.a a.b k / 65536 in
    let found = c.load_halves-found.result in
    let set = c.from_fn-depth.result in
    let depth : set ≡ leaves z = made_leaves z 0 c.from_fn-depth.ensures.items (λ p q k x e h. (search rules, search rules)) in
    let at : (k : ℕ) → k < 16 → nat_lt (get_or found k 0) (get_or set k 0) ≡ too_deep a.s a.ram.now a.a a.b t k =
    λ k h. ap₂ nat_lt
    (ap (λ l. get_or l k 0) c.load_halves-found.ensures
    ∙ leaf_at_lem (λ j. load_half a.ram.now (c.depth_at.result + 2 * j)) 0 h
    ∙ ap (load_half a.ram.now) (depth-from c.requires c.depth_at.ensures h))
    (ap (λ l. get_or l k 0) depth ∙ leaf_at_lem z 0 h) in
    let inside = made_leaves (λ k. mark_i t k && not (nat_lt (get_or found k 0) (get_or set k 0))) false c.from_fn-tree.ensures.items
    (λ p q k x e h. (search rules, search rules))
    ∙ leaves_same (λ k h. ap (λ m. mark_i t k && not m) (at k h)) in
    let outside = made_leaves (λ k. mark_o t k || nat_lt (get_or found k 0) (get_or set k 0)) false c.from_fn-tree-2.ensures.items
    (λ p q k x e h. (search rules, search rules))
    ∙ leaves_same (λ k h. ap (λ m. mark_o t k || m) (at k h)) in
    λ i. record {
      column = t.column;
      row = t.row;
      inside = inside i;
      outside = outside i;
      colour = t.colour;
      depth = depth i;
      held = true;
    }
