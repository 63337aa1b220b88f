-- Laws of one edge along the pixels: its lowered value is an affine function of the pixel, stays within 32 bits, is not negative exactly
-- inside, and rises or falls along a row. Everything is said once over the edge.
use Prim.Native.Nat.{ℕ, zero, suc, ◌+◌, ◌≤◌}
use mathlib.Core.Path.{◌≡◌, refl, sym, ◌∙◌, ap}
use mathlib.Core.List.{[], ◌∷◌}
use mathlib.Core.Bool.{Bool, true, false, ◌&&◌, ◌||◌}
use native.Mathlib.Omega.{arith}
use lib.IntN.{ℤ, pos, negsuc, ◌+ℤ◌, ◌-ℤ◌, ◌*ℤ◌}
use lib.Signed.{non_neg, le_z, ◌≤ℤ◌}
use borrow.Author.Tests.{lt-ltb, le-ltb}
use Rattle.std.proofs.lemmas.Int.{ints}
use Rattle.ints.proofs.Poly.{Exp, var, con, ◌⊕◌, ◌⊖◌, ◌⊗◌, solve}
use Rattle.ints.proofs.Order.{non_neg_is, non_neg_true, non_neg_false, mul_nonneg, pos-le}
use Rattle.ints.proofs.Bounds.{Within, within_pos, within_lit, within_sub, within_mul}
use Rattle.rules.specs.Folds.{choose}
use Rattle.rules.specs.Triangles.{Edge, dx, dy, edge_value, sample_offset, sample, keeps_zero, inside, positive, is_zero}
use Rattle.edges.proofs.Within.{EdgeWithin, value_within}
use Rattle.cover.specs.Side.{loss, lowered, sided}

-- inside is "not negative"

not_negative : (z : ℤ) (b : Bool) → (positive z || is_zero z && b) ≡ non_neg (z -ℤ choose b (pos 0) (pos 1))
not_negative (pos zero) true = refl
not_negative (pos zero) false = refl
not_negative (pos (suc n)) true = refl
not_negative (pos (suc n)) false = rw (le-ltb (suc n) 1 (omega arith))
not_negative (negsuc n) true = rw (lt-ltb 0 (suc n) (omega arith))
not_negative (negsuc n) false = refl

pub inside_sided : (e : Edge) (x y : ℕ) → inside e (sample x y) ≡ non_neg (sided e x y)
unfolding inside lowered
inside_sided e x y = not_negative (edge_value e (sample x y)) (keeps_zero (dx e) (dy e))

-- as the code tests it
pub inside_tested : (e : Edge) (x y : ℕ) {z : ℤ} → z ≡ edge_value e (sample x y) -ℤ loss (dx e) (dy e)
    → le_z (pos 0) z ≡ inside e (sample x y)
unfolding lowered
inside_tested e x y h = ap (le_z (pos 0)) h ∙ sym (inside_sided e x y ∙ non_neg_is (sided e x y))

-- an affine function of the pixel

abbrev edge_e : Exp → Exp → Exp
edge_e px py = (py ⊖ var 1) ⊗ (var 2 ⊖ var 0) ⊖ (px ⊖ var 0) ⊗ (var 3 ⊖ var 1)

abbrev sample_e : Exp → Exp
sample_e x = con (pos 8) ⊗ x ⊕ con (pos sample_offset)

abbrev slope_e : Exp
slope_e = con (pos 0) ⊖ con (pos 8) ⊗ (var 3 ⊖ var 1)

-- what a step of one pixel to the right adds
abbrev pub slope : Edge → ℤ
slope e = pos 0 -ℤ pos 8 *ℤ dy e

pub sided-right : (e : Edge) (x k y : ℕ) → sided e (x + k) y ≡ sided e x y +ℤ slope e *ℤ pos k
unfolding lowered sample edge_value
sided-right e x k y =
    solve (e.x1 ∷ e.y1 ∷ e.x2 ∷ e.y2 ∷ pos x ∷ pos y ∷ loss (dx e) (dy e) ∷ pos k ∷ [])
    (edge_e (sample_e (var 4 ⊕ var 7)) (sample_e (var 5)) ⊖ var 6)
    (edge_e (sample_e (var 4)) (sample_e (var 5)) ⊖ var 6 ⊕ slope_e ⊗ var 7) tt

pub sided-down : (e : Edge) (x y : ℕ) → sided e x (y + 1) ≡ sided e x y +ℤ pos 8 *ℤ dx e
unfolding lowered sample edge_value
sided-down e x y =
    solve (e.x1 ∷ e.y1 ∷ e.x2 ∷ e.y2 ∷ pos x ∷ pos y ∷ loss (dx e) (dy e) ∷ [])
    (edge_e (sample_e (var 4)) (sample_e (var 5 ⊕ con (pos 1))) ⊖ var 6)
    (edge_e (sample_e (var 4)) (sample_e (var 5)) ⊖ var 6 ⊕ con (pos 8) ⊗ (var 2 ⊖ var 0)) tt

-- within 32 bits

pub loss_within : (a b : ℤ) → Within 1 (loss a b)
loss_within a b = go (keeps_zero a b)
  where
    go : (k : Bool) → Within 1 (choose k (pos 0) (pos 1))
    go true = within_lit tt
    go false = within_lit tt

module _ (e : Edge) (w : EdgeWithin e) where
  pub sided_within : (x y : ℕ) → x ≤ 640 → y ≤ 512 → Within 419659777 (sided e x y)
  unfolding lowered
  sided_within x y hx hy = within_sub (value_within e w x y hx hy) (loss_within (dx e) (dy e))

  -- of a level edge
  pub level_within : is_zero (dy e) ≡ true → (x y : ℕ) → x ≤ 640 → y ≤ 512 → Within 201441281 (sided e x y)
  unfolding lowered edge_value sample
  level_within z x y hx hy =
      within_sub
      (within_sub
      (within_mul (within_sub (within_pos {n = 4103} (omega arith)) w.in_y1) (within_sub w.in_x2 w.in_x1))
      (within_mul (within_sub (within_pos {n = 5127} (omega arith)) w.in_x1) (none (dy e) z)))
      (loss_within (dx e) (dy e))
    where
      none : (d : ℤ) → is_zero d ≡ true → Within 0 d
      none (pos zero) h = within_lit tt
      none (pos (suc n)) h = absurd (let i : ◌≡◌ {A = ℕ} 0 1 = cc in omega arith)
      none (negsuc n) h = absurd (let i : ◌≡◌ {A = ℕ} 0 1 = cc in omega arith)

-- rising and falling

module _ (e : Edge) (x k y : ℕ) where
  pub rises : non_neg (slope e) ≡ true → sided e x y ≤ℤ sided e (x + k) y
  rises h =
      let more = mul_nonneg (non_neg_true (slope e) h) (pos-le {m = 0} {n = k} (omega arith)) in
      omega (arith, ints, sided-right e x k y, more)

  pub falls : non_neg (slope e) ≡ false → sided e (x + k) y ≤ℤ sided e x y
  falls h =
      let less = mul_nonneg {a = pos 0 -ℤ slope e} (omega (arith, ints, non_neg_false (slope e) h)) (pos-le {m = 0} {n = k} (omega arith)) in
      grind (arith, ints, sided-right e x k y, less)
