-- `tree_put` leaves `tree_put`. The loop's invariant: the first `k` leaves are put, which are the definition's first `k` passes; the leaves'
-- half-words stand side by side from the first on.
use Prim.Native.Nat.{ℕ, ◌+◌, ◌*◌}
use mathlib.Core.Path.{◌≡◌}
use mathlib.Core.List.{List}
use Rattle.rules.specs.Folds.{upto, choose}
use Rattle.instructions.specs.declared.Tree.{Tree}
use Rattle.instructions.specs.Tree.{is_put, leaf_colour, leaf_depth}
use Rattle.tree.specs.Leaves.{stored}
use Rattle.tree.proofs.tree_put.Given as goal

-- leaf k, put at its half-words' addresses
abbrev pub leaf_at : Tree → ℕ → ℕ → ℕ → List ℕ → List ℕ
leaf_at t colour depth k ram = choose (is_put t k) (stored t.held colour depth (leaf_colour t k) (leaf_depth t k) ram) ram

abbrev pub invariant-loop-k : goal.invariant-loop-k
invariant-loop-k l = l.ram ≡ upto (λ i. leaf_at l.tree (l.colour + 2 * i) (l.depth + 2 * i) i) l.k l.initial.ram
