-- The last of the samples so far, in both orders.
use Prim.Native.Nat.{ℕ, ◌+◌}
use mathlib.Core.List.{List}
use lib.IntN.{ℤ}
use lib.Signed.{◌≤ℤ◌}
use Rattle.samples.specs.Reached.{Last, ◌≥ℤ◌}
use Rattle.samples.proofs.ends.Given as goal

pub record Looked (samples : List ℤ) (from to : ℕ) (largest smallest : ℤ) : Type 0 where
  pub high : Last ◌≤ℤ◌ samples from to largest
  pub low : Last ◌≥ℤ◌ samples from to smallest

abbrev pub invariant-loop-v : goal.invariant-loop-v
invariant-loop-v l = Looked l.samples l.fn.numbers.start (l.fn.numbers.start + 1 + l.v-index) l.largest l.smallest
