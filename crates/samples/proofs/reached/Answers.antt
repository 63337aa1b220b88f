-- The column is below 640 and n at most 64, so the product and both sums are well inside 32 bits.
use Prim.Native.Nat.{ℕ, ◌≤◌}
use mathlib.Core.Path.{subst}
use native.Mathlib.Omega.{arith}
use lib.IntN.{ℤ}
use mir.Syntax.{w32}
use mir.Val.{SFits}
use Rattle.ints.proofs.Machine.{got_arg, got_nat, Code, known, ◌⊞◌, ◌⊠◌, need, reads_as}
use Rattle.samples.specs.Reached.{Clamps}
use Rattle.waveform.proofs.Ranges.{Good, good_facts, n_within, d_within}
use Rattle.samples.proofs.reached.Goals as goal

module _ {count x : ℕ} {n d : ℤ} (f : SFits w32 n) (g : SFits w32 d) (h : Good count n d) (l : x ≤ 640) where
  abbrev per_column : Code w32
  per_column = known (got_arg f (n_within h))

  abbrev product : Code w32
  product = known {n = x} (got_nat {b = 640} l tt) ⊠ per_column

  abbrev first : Code w32
  first = product ⊞ known (got_arg g (d_within h))

pub overflow_mul-first : goal.overflow_mul-first
overflow_mul-first c = need (product c.ranges.n c.ranges.d (good_facts c.requires.good) (omega (arith, c.requires.across))) tt

pub overflow_add-first : goal.overflow_add-first
overflow_add-first c = need (first c.ranges.n c.ranges.d (good_facts c.requires.good) (omega (arith, c.requires.across))) tt

pub clamped-requires : goal.clamped-requires
clamped-requires c = (good_facts c.requires.good).count_most

pub overflow_add-first-2 : goal.overflow_add-first-2
overflow_add-first-2 c =
    let h : Good c.args.count c.args.n c.args.d = good_facts c.requires.good in
    let l : c.args.x ≤ 640 = omega (arith, c.requires.across) in
    need (first c.ranges.n c.ranges.d h l ⊞ per_column c.ranges.n c.ranges.d h l) tt

pub clamped-requires-2 : goal.clamped-requires-2
clamped-requires-2 c = (good_facts c.requires.good).count_most

pub returns : goal.returns
returns c =
    let h : Good c.args.count c.args.n c.args.d = good_facts c.requires.good in
    let l : c.args.x ≤ 640 = omega (arith, c.requires.across) in
    let f : Code w32 = first c.ranges.n c.ranges.d h l in
    let e : Code w32 = f ⊞ per_column c.ranges.n c.ranges.d h l in
    record {
      begins = subst (λ z. Clamps z c.args.count c.clamped.result) (reads_as f tt) c.clamped.ensures;
      ends = subst (λ z. Clamps z c.args.count c.clamped-2.result) (reads_as e tt) c.clamped-2.ensures;
    }
