-- A tree that stands on a sound screen: its sixteen pixels are on it, so their half-words are in the RAM.
use Prim.Native.Nat.{ℕ, ◌+◌, ◌*◌, ◌%◌, ◌<◌}
use mathlib.Core.Path.{◌≡◌, sym, ◌∙◌, ap}
use mathlib.Core.Bool.{Bool}
use mathlib.Core.List.{List}
use lib.Dec.{ltb}
use Rattle.ram.specs.Ram.{load_half}
use Rattle.rules.specs.declared.Screen.{Screen}
use Rattle.rules.specs.Sizes.{colour_at, depth_at}
use Rattle.rules.proofs.Pixels.{On, sound_facts, colour_leaf, depth_leaf, colour-fits, depth-fits}
use Rattle.rules.specs.Triangles.{top_half}
use Rattle.instructions.specs.declared.Tree.{Tree}
use Rattle.instructions.specs.Tree.{leaf_value}
use Rattle.instructions.proofs.Standing.{first-whole, leaf_on}
use Rattle.tree.specs.Leaves.{Placed}

module _ {n : ℕ} {s : Screen} {t : Tree} (p : Placed n s t) where
  whole : t.column % 16 ≡ 0
  whole = first-whole s t.column t.row p.accepted

  on : {k : ℕ} → k < 16 → On s (t.column + k) t.row
  on h = leaf_on s t.column t.row p.accepted h

  pub depth_leaf_fits : {k : ℕ} → k < 16 → depth_at s (t.column + k) t.row + 1 < n
  depth_leaf_fits h = depth-fits (sound_facts p.is_sound) (on h)

  pub colour_leaf_fits : {k : ℕ} → k < 16 → colour_at s (t.column + k) t.row + 1 < n
  colour_leaf_fits h = colour-fits (sound_facts p.is_sound) (on h)

  -- the leaves' half-words stand side by side, from the first leaf's on
  pub colour-from : {first k : ℕ} → first ≡ colour_at s t.column t.row → k < 16 → first + 2 * k ≡ colour_at s (t.column + k) t.row
  colour-from {first} {k} e h = ap (λ n. n + 2 * k) e ∙ sym (colour_leaf (sound_facts p.is_sound) t.column k t.row whole h)

  pub depth-from : {first k : ℕ} → first ≡ depth_at s t.column t.row → k < 16 → first + 2 * k ≡ depth_at s (t.column + k) t.row
  depth-from {first} {k} e h = ap (λ n. n + 2 * k) e ∙ sym (depth_leaf (sound_facts p.is_sound) t.column k t.row whole h)

-- the value of leaf k is above the half-word at a place
abbrev pub deep : List ℕ → ℕ → ℕ → ℕ → ℕ → Bool
deep ram a b k place = ltb (load_half ram place) (top_half (leaf_value a b k))
