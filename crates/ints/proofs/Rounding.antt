-- The prover's `shr_z` rounds down, and no other number does: by cases on the sign, and since d·q < d·(p + 1) gives q < p + 1. What is left
-- over is a natural number below the divisor.
use Prim.Native.Nat.{ℕ, zero, suc, ◌*◌, ◌/◌, ◌%◌, ◌<◌}
use mathlib.Core.Path.{◌≡◌}
use mathlib.Core.List.{List, [], ◌∷◌}
use native.Mathlib.Nat.{mul-suc, mod-lt, div-add-mod}
use native.Mathlib.Omega.{arith}
use lib.IntN.{ℤ, pos, negsuc, nat_abs, ◌+ℤ◌, ◌-ℤ◌, ◌*ℤ◌}
use lib.Signed.{shr_z, ◌≤ℤ◌, ◌<ℤ◌}
use Rattle.ints.specs.Rounding.{RoundsDown}
use Rattle.ints.proofs.Poly.{var, con, ◌⊕◌, ◌⊖◌, ◌⊗◌}
use Rattle.ints.proofs.Order.{Is, is_pos, is_negsuc, is_self, is-add, is-times, is_le, is_lt, up, dn}
use Rattle.ints.proofs.Order.{le_of, le_to, lt_of, lt_to, eq_to, eq_of, sub_nonneg, natural, antisymmetric, cancel_lt}

-- the divisor is k + 1
module _ (k : ℕ) where
  times : (q : ℤ) → Is (pos (suc k) *ℤ q) (suc k * up q) (suc k * dn q)
  times q = is-times (suc k) (is_self q)

  by_sign : (n : ℤ) → RoundsDown n (pos (suc k)) (shr_z n (suc k))
  by_sign (pos n) =
      let q = pos (n / suc k) in
      let m : n % suc k < suc k = mod-lt n (omega arith) in
      let s = div-add-mod n (suc k) in
      record {
        not_above = is_le (times q) (is_pos n) (omega (arith, s));
        greatest = is_lt (is_pos n) (is-add (times q) (is_pos (suc k))) (omega (arith, s, m));
      }
  by_sign (negsuc n) =
      let q = negsuc (n / suc k) in
      let m : n % suc k < suc k = mod-lt n (omega arith) in
      let s = div-add-mod n (suc k) in
      let t = mul-suc (suc k) (n / suc k) in
      record {
        not_above = is_le (times q) (is_negsuc n) (omega (arith, s, m, t));
        greatest = is_lt (is_negsuc n) (is-add (times q) (is_pos (suc k))) (omega (arith, s, m, t));
      }

pub shr_z_rounds_down : (n : ℤ) (d : ℕ) → 0 < d → RoundsDown n (pos d) (shr_z n d)
shr_z_rounds_down n zero h = absurd (omega (arith, h))
shr_z_rounds_down n (suc k) h = by_sign k n

-- of two, neither is above the other
module _ {n d : ℤ} (h : pos 0 <ℤ d) where
  at_most : {q p : ℤ} → RoundsDown n d q → RoundsDown n d p → q ≤ℤ p
  at_most {q} {p} a b =
      let ρ : List ℤ = q ∷ p ∷ d ∷ n ∷ [] in
      let l : (d *ℤ q) <ℤ (d *ℤ (p +ℤ pos 1)) =
      lt_of ρ (var 2 ⊗ var 0) (var 2 ⊗ (var 1 ⊕ con (pos 1)))
      (omega (
        arith,
        le_to ρ (var 2 ⊗ var 0) (var 3) a.not_above,
        lt_to ρ (var 3) (var 2 ⊗ var 1 ⊕ var 2) b.greatest,
      )) in
      le_of ρ (var 0) (var 1) (omega (arith, lt_to ρ (var 0) (var 1 ⊕ con (pos 1)) (cancel_lt h l)))

  pub rounds_to_one : {q p : ℤ} → RoundsDown n d q → RoundsDown n d p → q ≡ p
  rounds_to_one a b = antisymmetric (at_most a b) (at_most b a)

-- what rounding down leaves over
pub record LeftOver (n d q : ℤ) : Type 0 where
  pub over : ℕ
  pub few : pos over <ℤ d
  pub whole : n ≡ d *ℤ q +ℤ pos over

pub left_over_lem : {n d q : ℤ} → RoundsDown n d q → LeftOver n d q
left_over_lem {n} {d} {q} g =
    let z = n -ℤ d *ℤ q in
    let e : z ≡ pos (nat_abs z) = natural (sub_nonneg g.not_above) in
    let ρ : List ℤ = n ∷ (d *ℤ q) ∷ pos (nat_abs z) ∷ d ∷ [] in
    let w : n ≡ d *ℤ q +ℤ pos (nat_abs z) =
    eq_of ρ (var 0) (var 1 ⊕ var 2) (omega (arith, eq_to ρ (var 0 ⊖ var 1) (var 2) e)) in
    record {
      over = nat_abs z;
      few =
          lt_of ρ (var 2) (var 3)
          (omega (arith, lt_to ρ (var 0) (var 1 ⊕ var 3) g.greatest, eq_to ρ (var 0) (var 1 ⊕ var 2) w));
      whole = w;
    }
