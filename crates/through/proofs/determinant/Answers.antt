-- The differences and products are within 64 bits, since all six numbers are small, and what they mean is the definition.
use Prim.Native.Nat.{◌≤◌}
use lib.IntN.{ℤ, nat_abs}
use mir.Syntax.{w32, w64}
use Rattle.ints.proofs.Machine.{got_in, Code, known, cast, ◌⊟◌, ◌⊠◌, need, reads_as}
use Rattle.through.specs.Through.{Small}
use Rattle.through.proofs.determinant.Goals as goal

abbrev wide : (z : ℤ) → nat_abs z ≤ 32767 → Code w64
wide z h = cast w64 (known (got_in {w = w32} {z = z} (record { within = h }) tt))

module _ {p1 p2 p3 q1 q2 q3 : ℤ} (p : Small p1 p2 p3) (q : Small q1 q2 q3) where
  abbrev first : Code w64
  first = (wide p2 p.second ⊟ wide p1 p.first) ⊠ (wide q3 q.third ⊟ wide q1 q.first)

  abbrev second : Code w64
  second = (wide p3 p.third ⊟ wide p1 p.first) ⊠ (wide q2 q.second ⊟ wide q1 q.first)

pub overflow_mul-result : goal.overflow_mul-result
overflow_mul-result c = need (first c.requires.p c.requires.q) tt

pub overflow_mul-result-2 : goal.overflow_mul-result-2
overflow_mul-result-2 c = need (second c.requires.p c.requires.q) tt

pub overflow_sub-result-5 : goal.overflow_sub-result-5
overflow_sub-result-5 c = need (first c.requires.p c.requires.q ⊟ second c.requires.p c.requires.q) tt

pub returns : goal.returns
returns c = reads_as (first c.requires.p c.requires.q ⊟ second c.requires.p c.requires.q) tt
