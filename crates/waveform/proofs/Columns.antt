-- Which samples a column takes. Both readings of an offset are the same two sums: with d + n, column x begins where column x + 1 begins
-- with d; and with d, each column begins d samples later than with 0, so the first d samples are in none.
use Prim.Native.Nat.{ℕ, zero, suc, ◌+◌, ◌<◌}
use mathlib.Core.Path.{◌≡◌, refl, sym, ◌∙◌, ap, ap₂}
use mathlib.Core.Bool.{Bool, false, ◌&&◌}
use mathlib.Core.List.{List, [], ◌∷◌}
use native.Mathlib.Nat.{add-zero, zero-add, suc-add}
use native.Mathlib.Omega.{arith}
use lib.ListN.{drop}
use lib.IntN.{ℤ, pos, ◌+ℤ◌, ◌-ℤ◌}
use lib.Signed.{le_z, ◌≤ℤ◌}
use Rattle.ints.proofs.Poly.{var, con, ◌⊕◌, ◌⊖◌, ◌⊗◌, solve}
use Rattle.ints.proofs.Order.{le_to, lt_to, lt_of, lt-le_z, le_z_shifted, mul_nonneg, pos-le, pos-lt}
use Rattle.rules.specs.Folds.{choose}
use Rattle.waveform.specs.Panel.{first_of, takes, taken_from}

module _ (n : ℤ) (x : ℕ) where
  -- what a column takes depends on where it begins
  abbrev between : ℤ → ℕ → Bool
  between f i = le_z f (pos i) && le_z (pos i) (f +ℤ n -ℤ pos 1)

  module _ (d : ℤ) where
    first_later : first_of n (d +ℤ n) x ≡ first_of n d (x + 1)
    first_later =
        solve (pos x ∷ n ∷ d ∷ []) (var 0 ⊗ var 1 ⊕ (var 2 ⊕ var 1)) ((var 0 ⊕ con (pos 1)) ⊗ var 1 ⊕ var 2) tt

    takes_later : (i : ℕ) → takes n (d +ℤ n) x i ≡ takes n d (x + 1) i
    unfolding takes
    takes_later i = ap (λ f. between f i) first_later

    -- d + n puts in column x what d puts in column x + 1
    pub taken_later : (i : ℕ) (r : List ℤ) → taken_from n (d +ℤ n) x i r ≡ taken_from n d (x + 1) i r
    unfolding taken_from
    taken_later i [] = refl
    taken_later i (v ∷ r) = ap₂ (λ b l. choose b (v ∷ l) l) (takes_later i) (taken_later (suc i) r)

  module _ (k : ℕ) where
    takes_moved : (i : ℕ) → takes n (pos k) x (i + k) ≡ takes n (pos 0) x i
    unfolding takes
    takes_moved i =
        ap₂ ◌&&◌
        (ap (λ f. le_z f (pos (i + k))) begins ∙ le_z_shifted (first_of n (pos 0) x) (pos i) (pos k))
        (ap (le_z (pos (i + k))) ends ∙ le_z_shifted (pos i) (first_of n (pos 0) x +ℤ n -ℤ pos 1) (pos k))
      where
        ρ : List ℤ
        ρ = pos x ∷ n ∷ pos k ∷ []

        begins : first_of n (pos k) x ≡ first_of n (pos 0) x +ℤ pos k
        begins = solve ρ (var 0 ⊗ var 1 ⊕ var 2) (var 0 ⊗ var 1 ⊕ con (pos 0) ⊕ var 2) tt

        ends : first_of n (pos k) x +ℤ n -ℤ pos 1 ≡ first_of n (pos 0) x +ℤ n -ℤ pos 1 +ℤ pos k
        ends =
            solve ρ
            (var 0 ⊗ var 1 ⊕ var 2 ⊕ var 1 ⊖ con (pos 1))
            (var 0 ⊗ var 1 ⊕ con (pos 0) ⊕ var 1 ⊖ con (pos 1) ⊕ var 2)
            tt

    taken-moved : (i : ℕ) (r : List ℤ) → taken_from n (pos k) x (i + k) r ≡ taken_from n (pos 0) x i r
    unfolding taken_from
    taken-moved i [] = refl
    taken-moved i (v ∷ r) =
        ap₂ (λ b l. choose b (v ∷ l) l) (takes_moved i)
        (ap (λ a. taken_from n (pos k) x a r) (sym (suc-add i k)) ∙ taken-moved (suc i) r)

    module _ (h : pos 0 ≤ℤ n) where
      takes_none_before : (i : ℕ) → i < k → takes n (pos k) x i ≡ false
      unfolding takes
      takes_none_before i l =
          ap (λ b. b && le_z (pos i) (first_of n (pos k) x +ℤ n -ℤ pos 1))
          (lt-le_z (first_of n (pos k) x) (pos i)
          (lt_of ρ (var 0) (var 3 ⊗ var 1 ⊕ var 2)
          (omega (arith, lt_to ρ (var 0) (var 2) (pos-lt l), le_to ρ (con (pos 0)) (var 3 ⊗ var 1) (mul_nonneg (pos-le (omega arith)) h)))))
        where
          ρ : List ℤ
          ρ = pos i ∷ n ∷ pos k ∷ pos x ∷ []

      taken-after : (j i : ℕ) (r : List ℤ) → i + j ≡ k → taken_from n (pos k) x i r ≡ taken_from n (pos k) x k (drop j r)
      unfolding taken_from
      taken-after zero i r e = ap (λ a. taken_from n (pos k) x a r) (sym (add-zero i) ∙ e)
      taken-after (suc j) i [] e = refl
      taken-after (suc j) i (v ∷ r) e =
          ap (λ b. choose b (v ∷ taken_from n (pos k) x (suc i) r) (taken_from n (pos k) x (suc i) r)) (takes_none_before i (omega arith))
          ∙ taken-after j (suc i) r (omega arith)

      -- offset k is offset 0 without the first k samples
      pub taken-offset : (r : List ℤ) → taken_from n (pos k) x 0 r ≡ taken_from n (pos 0) x 0 (drop k r)
      taken-offset r =
          taken-after k 0 r (zero-add k)
          ∙ ap (λ a. taken_from n (pos k) x a (drop k r)) (sym (zero-add k))
          ∙ taken-moved 0 (drop k r)
