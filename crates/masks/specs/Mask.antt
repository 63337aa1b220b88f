-- Masks of a group's leaves, leaf 0 in the top bit.
use Rattle.std.specs.Prelude.{ℕ, zero, suc, ◌+◌, ◌*◌, ◌≡◌, Bool, List, [], ◌∷◌}
use Rattle.std.specs.Int.Count.{ones}
use Rattle.std.specs.List.{sum_by, fold}
use Rattle.rules.specs.Folds.{bit}
use Rattle.masks.specs.declared.Masks.{Masks}

unfoldable pub mask_of : (ℕ → Bool) → ℕ → ℕ
mask_of leaf zero = 0
mask_of leaf (suc k) = mask_of leaf k * 2 + bit (leaf k)

-- the masks of four groups side by side, whose leaves are the columns 0 to 63
pub record MasksOf (column : ℕ → Bool) (m : Masks) : Type 0 where
  pub groups : m.groups
      ≡ mask_of column 16
      ∷ mask_of (λ k. column (16 + k)) 16
      ∷ mask_of (λ k. column (32 + k)) 16
      ∷ mask_of (λ k. column (48 + k)) 16
      ∷ []

-- the ones of each, added
abbrev pub ones_of : List ℕ → ℕ
ones_of groups = sum_by ones groups

-- the groups side by side, the first in the top bits
abbrev pub word_of : List ℕ → ℕ
word_of groups = fold (λ word group. word * 65536 + group) 0 groups
