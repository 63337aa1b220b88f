-- The plane is above the exact value at every pixel of the largest screen, and by at most 1,119 units: each of the three numbers loses less
-- than one by rounding, c once, a once for each column and b once for each row, 1 + 639 + 479 times at most, and c is raised by as much.
use Prim.Native.Nat.{ℕ, zero, suc, ◌+◌, ◌*◌, ◌≤◌, ◌<◌}
use mathlib.Core.Path.{◌≡◌, ◌∙◌, ap, ap₂}
use mathlib.Core.List.{List, [], ◌∷◌}
use native.Mathlib.Nat.{mul-le-mul}
use native.Mathlib.Omega.{arith}
use lib.IntN.{ℤ, pos, negsuc, ◌+ℤ◌, ◌*ℤ◌}
use lib.Signed.{◌<ℤ◌}
use Rattle.ints.proofs.Poly.{var, con, ◌⊕◌, ◌⊗◌, solve}
use Rattle.ints.proofs.Order.{is_pos, is_self, is_lt, lt-is, le_of, lt_of, lt_to, eq_to}
use Rattle.ints.proofs.Rounding.{LeftOver, left_over_lem}
use Rattle.rules.specs.declared.Vertices.{Vertices}
use Rattle.rules.specs.Triangles.{sample, doubled_area}
use Rattle.interpolation.specs.declared.Values.{Values}
use Rattle.interpolation.specs.Interpolation.{numerator_a, numerator_b, numerator, in_units, raise, rounded_down}
use Rattle.interpolation.specs.Interpolation.{through_a, through_b, through_c, plane_through}
use Rattle.interpolation.specs.Nearness.{plane_times, exact_times, Near}
use Rattle.interpolation.proofs.Cramer.{stepped}
use Rattle.interpolation.proofs.Rounding.{rounded_down_lem}

-- what three roundings leave over at pixel (x, y), in all
in_all : (d : ℤ) (m n o x y : ℕ)
    → pos m <ℤ d
    → pos n <ℤ d
    → pos o <ℤ d
    → x < 640
    → y < 480
    → pos (m + n * x + o * y) <ℤ (d *ℤ raise)
in_all (negsuc k) m n o x y hm hn ho hx hy = absurd hm.lt
in_all (pos zero) m n o x y hm hn ho hx hy = absurd (omega (arith, lt-is (is_pos m) (is_pos 0) hm))
in_all (pos (suc k)) m n o x y hm hn ho hx hy =
    let hm' = lt-is (is_pos m) (is_pos (suc k)) hm in
    let hn' = lt-is (is_pos n) (is_pos (suc k)) hn in
    let ho' = lt-is (is_pos o) (is_pos (suc k)) ho in
    let p : n * x ≤ k * 639 = mul-le-mul (omega (arith, hn')) (omega arith) in
    let q : o * y ≤ k * 479 = mul-le-mul (omega (arith, ho')) (omega arith) in
    is_lt (is_pos (m + n * x + o * y)) (is_self (pos (suc k) *ℤ raise)) (omega (arith, hm', p, q))

-- three quotients rounded down, and the plane that they make
module _
    (d n a b : ℤ)
    (x y : ℕ)
    {q p s : ℤ}
    (l : LeftOver (in_units n) d q)
    (i : LeftOver (in_units (pos 8 *ℤ a)) d p)
    (j : LeftOver (in_units (pos 8 *ℤ b)) d s)
  where
    summed : in_units (n +ℤ pos 8 *ℤ a *ℤ pos x +ℤ pos 8 *ℤ b *ℤ pos y) +ℤ d *ℤ raise
        ≡ d *ℤ (q +ℤ raise +ℤ p *ℤ pos x +ℤ s *ℤ pos y) +ℤ pos (l.over + i.over * x + j.over * y)
    summed =
        solve (n ∷ a ∷ b ∷ pos x ∷ pos y ∷ d ∷ [])
        (con (pos 65536) ⊗ (var 0 ⊕ con (pos 8) ⊗ var 1 ⊗ var 3 ⊕ con (pos 8) ⊗ var 2 ⊗ var 4) ⊕ var 5 ⊗ con raise)
        (con (pos 65536) ⊗ var 0 ⊕ con (pos 65536) ⊗ (con (pos 8) ⊗ var 1) ⊗ var 3
        ⊕ con (pos 65536) ⊗ (con (pos 8) ⊗ var 2) ⊗ var 4 ⊕ var 5 ⊗ con raise)
        tt
        ∙ ap (λ (z : ℤ). z +ℤ d *ℤ raise)
        (ap₂ ◌+ℤ◌ (ap₂ ◌+ℤ◌ l.whole (ap (λ (z : ℤ). z *ℤ pos x) i.whole)) (ap (λ (z : ℤ). z *ℤ pos y) j.whole))
        ∙ solve (d ∷ q ∷ p ∷ s ∷ pos l.over ∷ pos i.over ∷ pos j.over ∷ pos x ∷ pos y ∷ [])
        (var 0 ⊗ var 1 ⊕ var 4 ⊕ (var 0 ⊗ var 2 ⊕ var 5) ⊗ var 7 ⊕ (var 0 ⊗ var 3 ⊕ var 6) ⊗ var 8 ⊕ var 0 ⊗ con raise)
        (var 0 ⊗ (var 1 ⊕ con raise ⊕ var 2 ⊗ var 7 ⊕ var 3 ⊗ var 8) ⊕ (var 4 ⊕ var 5 ⊗ var 7 ⊕ var 6 ⊗ var 8))
        tt

module _ (v : Vertices) (r : Values) (h : pos 0 <ℤ doubled_area v) where
  abbrev LeftOf : ℤ → Type 0
  LeftOf n = LeftOver (in_units n) (doubled_area v) (rounded_down (in_units n) (doubled_area v))

  left-of : (n : ℤ) → LeftOf n
  left-of n = left_over_lem (rounded_down_lem h)

  abbrev c-left : LeftOf (numerator v r (sample 0 0))
  c-left = left-of (numerator v r (sample 0 0))

  abbrev a-left : LeftOf (pos 8 *ℤ numerator_a v r)
  a-left = left-of (pos 8 *ℤ numerator_a v r)

  abbrev b-left : LeftOf (pos 8 *ℤ numerator_b v r)
  b-left = left-of (pos 8 *ℤ numerator_b v r)

  module _ (x y : ℕ) where
    abbrev left_over : ℕ
    left_over = c-left.over + a-left.over * x + b-left.over * y

    -- the plane, and what is left over, are the exact value raised
    plane-and-left-over :
        exact_times v r x y +ℤ doubled_area v *ℤ raise ≡ plane_times v (plane_through v r) x y +ℤ pos left_over
    unfolding plane_through through_a through_b through_c
    plane-and-left-over =
        ap (λ (z : ℤ). in_units z +ℤ doubled_area v *ℤ raise) (stepped v r x y)
        ∙ summed (doubled_area v) (numerator v r (sample 0 0)) (numerator_a v r) (numerator_b v r) x y c-left a-left b-left

    pub near : x < 640 → y < 480 → Near v r (plane_through v r) x y
    near hx hy =
        let ρ : List ℤ =
        exact_times v r x y ∷ plane_times v (plane_through v r) x y ∷ (doubled_area v *ℤ raise) ∷ pos left_over ∷ [] in
        let e = eq_to ρ (var 0 ⊕ var 2) (var 1 ⊕ var 3) plane-and-left-over in
        let l =
        lt_to ρ (var 3) (var 2)
        (in_all (doubled_area v) c-left.over a-left.over b-left.over x y c-left.few a-left.few b-left.few hx hy) in
        record {
          above = lt_of ρ (var 0) (var 1) (omega (arith, e, l));
          at_most = le_of ρ (var 1) (var 0 ⊕ var 2) (omega (arith, e));
        }
