-- A leaf's value, added up: it starts as r1, and a step to the next leaf adds r2.
use Prim.Native.Nat.{ℕ, ◌+◌, ◌*◌, ◌%◌, ◌<◌}
use mathlib.Core.Path.{◌≡◌}
use native.Mathlib.Nat.{add-mul}
use native.Mathlib.Omega.{arith}
use Rattle.instructions.specs.Tree.{leaf_value}

pub value-first : (a b : ℕ) → a < 4294967296 → a ≡ leaf_value a b 0
unfolding leaf_value
value-first a b h = omega arith

pub value-next : (a b k : ℕ) {v w : ℕ} → v ≡ leaf_value a b k → w ≡ (v + b) % 4294967296 → w ≡ leaf_value a b (k + 1)
unfolding leaf_value
value-next a b k e q =
    let p : (k + 1) * b ≡ k * b + 1 * b = add-mul k 1 b in
    omega arith

pub value-small : (a b k : ℕ) → leaf_value a b k < 4294967296
unfolding leaf_value
value-small a b k = omega arith
