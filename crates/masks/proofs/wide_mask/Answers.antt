-- The columns from the first one on, less those from `past` on: each is 2^64 - 1 shifted by the columns before. Shifted by 64 in two steps,
-- since one shift is by less than the width.
use Prim.Native.Nat.{ℕ, ◌+◌, ◌-◌, ◌/◌, ◌^◌}
use mathlib.Core.Path.{◌≡◌, ◌∙◌, ap}
use native.Mathlib.Omega.{arith}
use lib.Pow.{shr-shr}
use Rattle.masks.proofs.Mask.{shifted_span}
use Rattle.masks.proofs.wide_mask.Goals as goal

twice : (past : ℕ) → past - 1 + 1 ≡ past → (2 ^ 64 - 1) / 2 ^ (past - 1) / 2 ^ 1 ≡ (2 ^ 64 - 1) / 2 ^ past
twice past e = shr-shr (2 ^ 64 - 1) (past - 1) 1 ∙ ap (λ (k : ℕ). (2 ^ 64 - 1) / 2 ^ k) e

pub overflow_sub-result-2 : goal.overflow_sub-result-2
overflow_sub-result-2 c =
    let a = c.args in
    omega (arith, shifted_span a.first a.past (omega arith) c.requires.limited, twice a.past (omega arith))

pub returns : goal.returns
returns c =
    let a = c.args in
    omega (arith, shifted_span a.first a.past (omega arith) c.requires.limited, twice a.past (omega arith))
