-- 02, M-102: "For operands 1 to 512 use a stored table of 512 reciprocals. Its rule is proved once for the whole table."
use Rattle.std.specs.Prelude.{ℕ, ◌-◌, ◌/◌, ◌≤◌, ◌<◌, ◌≡◌, List, length, get_or}

-- entries are counted from 1, as the operands are
abbrev pub entry : List ℕ → ℕ → ℕ
entry table d = get_or table (d - 1) 0

-- The rule: entry d is 2147483647 / d, rounded down, for each d that the table has. It has 512 entries or fewer.
pub record Reciprocals (table : List ℕ) : Type 0 where
  pub size : length table ≤ 512
  pub rule : (d : ℕ) → 0 < d → d ≤ length table → entry table d ≡ 2147483647 / d
