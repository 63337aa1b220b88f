-- A tree's sixteen pixels, and their half-words.
use Rattle.std.specs.Prelude.{ℕ, ◌+◌, ◌*◌, ◌≡◌, Bool, true, false, List}
use Rattle.rules.specs.declared.Screen.{Screen}
use Rattle.rules.specs.Folds.{choose}
use Rattle.ram.specs.Ram.{load_half, store_half}
use Rattle.rules.specs.Sizes.{sound}
use Rattle.instructions.specs.declared.Tree.{Tree}
use Rattle.instructions.specs.Tree.{leaves, refuses_place}

-- the tree stands on a sound screen, at a place that TREESET does not refuse
pub record Placed (ram_length : ℕ) (s : Screen) (t : Tree) : Type 0 where
  pub is_sound : sound ram_length s ≡ true
  pub accepted : refuses_place s t.column t.row ≡ false

-- sixteen half-words side by side, from `first` on
abbrev pub halves : List ℕ → ℕ → List ℕ
halves ram first = leaves (λ k. load_half ram (first + 2 * k))

-- one leaf of TREEPUT: "its colour always, its depth only if one is held"
unfoldable pub stored : Bool → ℕ → ℕ → ℕ → ℕ → List ℕ → List ℕ
stored held colour_place depth_place colour depth ram =
    choose held (store_half (store_half ram colour_place colour) depth_place depth) (store_half ram colour_place colour)
