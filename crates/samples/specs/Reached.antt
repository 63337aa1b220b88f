-- The words of the contracts: a number of samples clamped, where a column begins and ends, and the ends of the samples between two.
use Rattle.std.specs.Prelude.{ℕ, ◌≤◌, ◌<◌, ◌≡◌, ◌⊎◌, List, get_or, leb, ℤ, pos, ◌+ℤ◌, ◌≤ℤ◌}
use Rattle.std.specs.Int.Signed.{le_z}
use Rattle.waveform.specs.Panel.{first_of}
use Rattle.std.specs.declared.ops.Range.{Range}
use Rattle.samples.specs.declared.Extremes.{Extremes}

-- of the numbers below `count`, those from k on are those from r on
pub record Clamps (k : ℤ) (count r : ℕ) : Type 0 where
  pub no_more : r ≤ count
  pub from : (i : ℕ) → i < count → le_z k (pos i) ≡ leb r i

-- the ends of column x among so many samples
pub record Reaches (count : ℕ) (n d : ℤ) (x : ℕ) (r : Range ℕ) : Type 0 where
  pub begins : Clamps (first_of n d x) count r.start
  pub ends : Clamps (first_of n d x +ℤ n) count r.end

-- the number of a sample between two
pub record Between (from to i : ℕ) : Type 0 where
  pub not_before : from ≤ i
  pub before : i < to

abbrev pub at : List ℤ → ℕ → ℤ
at samples i = get_or samples i (pos 0)

infixl 4 ◌≥ℤ◌
abbrev pub ◌≥ℤ◌ : ℤ → ℤ → Type 0
a ≥ℤ b = b ≤ℤ a

-- of two, the later in an order
pub record LaterOf (before : ℤ → ℤ → Type 0) (a b r : ℤ) : Type 0 where
  pub one : (r ≡ a) ⊎ (r ≡ b)
  pub after_first : before a r
  pub after_second : before b r

-- a sample between the two that none between them passes, in an order
pub record Last (before : ℤ → ℤ → Type 0) (samples : List ℤ) (from to : ℕ) (v : ℤ) : Type 0 where
  pub place : ℕ
  pub between : Between from to place
  pub is : at samples place ≡ v
  pub after_each : (i : ℕ) → Between from to i → before (at samples i) v

pub record EndsBetween (samples : List ℤ) (from to : ℕ) (r : Extremes) : Type 0 where
  pub high : Last ◌≤ℤ◌ samples from to r.largest
  pub low : Last ◌≥ℤ◌ samples from to r.smallest
