-- An accepted count, n and d, as orders and as bounds.
use Prim.Native.Nat.{ℕ, ◌≤◌}
use mathlib.Core.Path.{◌≡◌}
use mathlib.Core.Bool.{true}
use lib.IntN.{ℤ, pos, negsuc}
use lib.Signed.{◌≤ℤ◌}
use borrow.Author.Tests.{leb-true}
use Rattle.ints.proofs.Order.{le_z_true}
use Rattle.ints.proofs.Bounds.{Within, within_range, within_lit}
use Rattle.rules.proofs.Choices.{and_true}
use Rattle.waveform.specs.Panel.{good_waveform}

pub record Good (count : ℕ) (n d : ℤ) : Type 0 where
  pub count_most : count ≤ 40960
  pub n_least : pos 1 ≤ℤ n
  pub n_most : n ≤ℤ pos 64
  pub d_least : negsuc 2047 ≤ℤ d
  pub d_most : d ≤ℤ pos 2047

pub good_facts : {count : ℕ} {n d : ℤ} → good_waveform count n d ≡ true → Good count n d
unfolding good_waveform
good_facts {count} {n} {d} h =
    let a = and_true h in
    let b = and_true a.0 in
    let p = and_true b.1 in
    let q = and_true a.1 in
    record {
      count_most = leb-true count 40960 b.0;
      n_least = le_z_true (pos 1) n p.0;
      n_most = le_z_true n (pos 64) p.1;
      d_least = le_z_true (negsuc 2047) d q.0;
      d_most = le_z_true d (pos 2047) q.1;
    }

module _ {count : ℕ} {n d : ℤ} (g : Good count n d) where
  pub n_within : Within 64 n
  n_within = within_range (within_lit tt) (within_lit tt) g.n_least g.n_most

  pub d_within : Within 2048 d
  d_within = within_range (within_lit tt) (within_lit tt) g.d_least g.d_most
