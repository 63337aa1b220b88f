-- The last arm of a match: an opcode that is none of n in a row, from b on, is past them.
use Prim.Native.Nat.{ℕ, zero, suc, ◌+◌, ◌≤◌}
use mathlib.Core.Logic.{◌≢◌}
use native.Mathlib.Omega.{arith}

unfoldable pub NoneOf : ℕ → ℕ → ℕ → Type 0
NoneOf b op zero = Unit {0}
NoneOf b op (suc n) = NoneOf b op n × (op ≢ b + n)

pub past : (b op n : ℕ) → b ≤ op → NoneOf b op n → b + n ≤ op
unfolding NoneOf
past b op zero h r = omega arith
past b op (suc n) h (r, d) =
    let l : b + n ≤ op = past b op n h r in
    omega (arith, d)
