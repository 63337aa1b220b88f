-- An edge that runs along a stretch has the same points inside as the stretch: with n the stretch's squared length and k the product of the
-- two directions, n times the edge's value and steps are k times the stretch's, and n and k are positive. That the stretch lies between the
-- edge's ends is not needed.
use Prim.Native.Nat.{ℕ, zero, suc, ◌*◌, ◌<◌}
use mathlib.Core.Path.{◌≡◌, refl, sym, ◌∙◌, ap}
use mathlib.Core.Logic.{◌≢◌, inl, inr}
use mathlib.Core.List.{List, [], ◌∷◌}
use native.Mathlib.Omega.{arith}
use native.Mathlib.Nat.{mul-zero, mul-suc}
use lib.Dec.{lt→ltb}
use lib.IntN.{ℤ, pos, negsuc, neg_ℤ, ◌+ℤ◌, ◌-ℤ◌, ◌*ℤ◌}
use lib.Signed.{◌≤ℤ◌, ◌<ℤ◌, lt_z_yes}
use Rattle.ints.proofs.Poly.{Exp, var, con, neg, ◌⊕◌, ◌⊖◌, ◌⊗◌, solve}
use Rattle.ints.proofs.Order.{pos-le, le_to, lt_to, lt_of}
use Rattle.rules.specs.Triangles.{Point, Edge, dx, dy, edge_value, positive, is_zero, negative, inside}
use Rattle.order.specs.Sides.{HasLength}
use Rattle.order.specs.CommonEdge.{start, end, RunsAlong}
use Rattle.order.proofs.Sides.{within, inside_is}

-- a positive factor changes no sign

record SameSigns (a b : ℤ) : Type 0 where
  as_positive : positive a ≡ positive b
  as_zero : is_zero a ≡ is_zero b
  as_negative : negative a ≡ negative b

times : (n z : ℤ) → pos 0 <ℤ n → SameSigns (n *ℤ z) z
times (pos zero) z h = absurd h.lt
times (negsuc n) z h = absurd h.lt
times (pos (suc n)) (pos zero) h =
    let e : pos (suc n * 0) ≡ pos 0 = ap pos (mul-zero (suc n)) in
    record { as_positive = ap positive e; as_zero = ap is_zero e; as_negative = refl }
times (pos (suc n)) (pos (suc k)) h = go (suc n * suc k) (omega (arith, mul-suc (suc n) k))
  where
    go : (m : ℕ) → 0 < m → SameSigns (pos m) (pos (suc k))
    go zero l = absurd (omega arith)
    go (suc m) l = record { as_positive = refl; as_zero = refl; as_negative = refl }
times (pos (suc n)) (negsuc k) h = go (suc n * suc k) (omega (arith, mul-suc (suc n) k))
  where
    go : (m : ℕ) → 0 < m → SameSigns (neg_ℤ (pos m)) (negsuc k)
    go zero l = absurd (omega arith)
    go (suc m) l = record { as_positive = refl; as_zero = refl; as_negative = refl }

same_signs : (n k a b : ℤ) → pos 0 <ℤ n → pos 0 <ℤ k → n *ℤ a ≡ k *ℤ b → SameSigns a b
same_signs n k a b hn hk e = record {
  as_positive = sym (times n a hn).as_positive ∙ ap positive e ∙ (times k b hk).as_positive;
  as_zero = sym (times n a hn).as_zero ∙ ap is_zero e ∙ (times k b hk).as_zero;
  as_negative = sym (times n a hn).as_negative ∙ ap negative e ∙ (times k b hk).as_negative;
}

same_within : {v v' u u' w w' : ℤ} → SameSigns v v' → SameSigns u u' → SameSigns w w' → within v u w ≡ within v' u' w'
same_within v u w = rw (v.as_positive, v.as_zero, w.as_negative, w.as_zero, u.as_positive)

-- a sum with products that have a factor 0
without : (a b c d e f : ℤ) → a ≡ b +ℤ c *ℤ d +ℤ e *ℤ f → d ≡ pos 0 → f ≡ pos 0 → a ≡ b
without a b c d e f h p q =
    h
    ∙ ap (λ (z : ℤ). b +ℤ c *ℤ z +ℤ e *ℤ f) p
    ∙ ap (λ (z : ℤ). b +ℤ c *ℤ pos 0 +ℤ e *ℤ z) q
    ∙ solve (b ∷ c ∷ e ∷ []) (var 0 ⊕ var 1 ⊗ con (pos 0) ⊕ var 2 ⊗ con (pos 0)) (var 0) tt

-- two edges, the second of which starts on the first one's line and has the same direction
module _ (e g : Edge) where
  abbrev ρ : List ℤ
  ρ = dx e ∷ dy e ∷ dx g ∷ dy g ∷ e.x1 ∷ e.y1 ∷ g.x1 ∷ g.y1 ∷ []

  -- how far the direction turns
  abbrev crossed : ℤ
  crossed = dy g *ℤ dx e -ℤ dx g *ℤ dy e

  abbrev squared : ℤ
  squared = dx g *ℤ dx g +ℤ dy g *ℤ dy g

  abbrev multiplied : ℤ
  multiplied = dx e *ℤ dx g +ℤ dy e *ℤ dy g

  abbrev n : Exp
  n = var 2 ⊗ var 2 ⊕ var 3 ⊗ var 3

  abbrev k : Exp
  k = var 0 ⊗ var 2 ⊕ var 1 ⊗ var 3

  abbrev c : Exp
  c = var 3 ⊗ var 0 ⊖ var 2 ⊗ var 1

  crossed_is : crossed ≡ edge_value e (end g) -ℤ edge_value e (start g)
  unfolding edge_value
  crossed_is =
      solve (e.x1 ∷ e.y1 ∷ e.x2 ∷ e.y2 ∷ g.x1 ∷ g.y1 ∷ g.x2 ∷ g.y2 ∷ [])
      ((var 7 ⊖ var 5) ⊗ (var 2 ⊖ var 0) ⊖ (var 6 ⊖ var 4) ⊗ (var 3 ⊖ var 1))
      ((var 7 ⊖ var 1) ⊗ (var 2 ⊖ var 0) ⊖ (var 6 ⊖ var 0) ⊗ (var 3 ⊖ var 1)
      ⊖ ((var 5 ⊖ var 1) ⊗ (var 2 ⊖ var 0) ⊖ (var 4 ⊖ var 0) ⊗ (var 3 ⊖ var 1)))
      tt

  module _ (a : edge_value e (start g) ≡ pos 0) (z : crossed ≡ pos 0) where
    across : squared *ℤ dx e ≡ multiplied *ℤ dx g
    across =
        without (squared *ℤ dx e) (multiplied *ℤ dx g) (dy g) crossed (pos 0) (pos 0)
        (solve ρ (n ⊗ var 0) (k ⊗ var 2 ⊕ var 3 ⊗ c ⊕ con (pos 0) ⊗ con (pos 0)) tt) z refl

    down : squared *ℤ dy e ≡ multiplied *ℤ dy g
    down =
        without (squared *ℤ dy e) (multiplied *ℤ dy g) (neg_ℤ (dx g)) crossed (pos 0) (pos 0)
        (solve ρ (n ⊗ var 1) (k ⊗ var 3 ⊕ neg (var 2) ⊗ c ⊕ con (pos 0) ⊗ con (pos 0)) tt) z refl

    values : (p : Point) → squared *ℤ edge_value e p ≡ multiplied *ℤ edge_value g p
    unfolding edge_value
    values p =
        without (squared *ℤ edge_value e p) (multiplied *ℤ edge_value g p)
        squared (edge_value e (start g))
        ((p.py -ℤ g.y1) *ℤ dy g +ℤ (p.px -ℤ g.x1) *ℤ dx g) crossed
        (solve (dx e ∷ dy e ∷ dx g ∷ dy g ∷ e.x1 ∷ e.y1 ∷ g.x1 ∷ g.y1 ∷ p.px ∷ p.py ∷ [])
        (n ⊗ ((var 9 ⊖ var 5) ⊗ var 0 ⊖ (var 8 ⊖ var 4) ⊗ var 1))
        (k ⊗ ((var 9 ⊖ var 7) ⊗ var 2 ⊖ (var 8 ⊖ var 6) ⊗ var 3)
        ⊕ n ⊗ ((var 7 ⊖ var 5) ⊗ var 0 ⊖ (var 6 ⊖ var 4) ⊗ var 1)
        ⊕ ((var 9 ⊖ var 7) ⊗ var 3 ⊕ (var 8 ⊖ var 6) ⊗ var 2) ⊗ c)
        tt)
        a z

-- an edge of non-zero length has a positive squared length

square_le : (z : ℤ) → pos 0 ≤ℤ (z *ℤ z)
square_le (pos n) = pos-le (omega arith)
square_le (negsuc n) = pos-le (omega arith)

square_lt : (z : ℤ) → z ≢ pos 0 → pos 0 <ℤ (z *ℤ z)
square_lt (pos zero) h = absurd (h refl)
square_lt (pos (suc n)) h = lt_z_yes (lt→ltb 0 (suc n * suc n) (omega (arith, mul-suc (suc n) n)))
square_lt (negsuc n) h = lt_z_yes (lt→ltb 0 (suc n * suc n) (omega (arith, mul-suc (suc n) n)))

pub squared_lt : (e : Edge) → HasLength e → pos 0 <ℤ squared e e
squared_lt e (inl h) = add-lt (square_lt (dx e) h) (square_le (dy e))
  where
    add-lt : {a b : ℤ} → pos 0 <ℤ a → pos 0 ≤ℤ b → pos 0 <ℤ (a +ℤ b)
    add-lt {a} {b} p q =
        lt_of (a ∷ b ∷ []) (con (pos 0)) (var 0 ⊕ var 1)
        (omega (arith, lt_to (a ∷ b ∷ []) (con (pos 0)) (var 0) p, le_to (a ∷ b ∷ []) (con (pos 0)) (var 1) q))
squared_lt e (inr h) = add-lt (square_le (dx e)) (square_lt (dy e) h)
  where
    add-lt : {a b : ℤ} → pos 0 ≤ℤ a → pos 0 <ℤ b → pos 0 <ℤ (a +ℤ b)
    add-lt {a} {b} p q =
        lt_of (a ∷ b ∷ []) (con (pos 0)) (var 0 ⊕ var 1)
        (omega (arith, le_to (a ∷ b ∷ []) (con (pos 0)) (var 0) p, lt_to (a ∷ b ∷ []) (con (pos 0)) (var 1) q))

pub along_inside : (e g : Edge) (p : Point) → HasLength g → RunsAlong e g → inside e p ≡ inside g p
along_inside e g p l r =
    let a = r.starts.on_line in
    let z : crossed e g ≡ pos 0 = crossed_is e g ∙ none (edge_value e (end g)) (edge_value e (start g)) r.ends.on_line a in
    inside_is e p
    ∙ same_within
    (signs (edge_value e p) (edge_value g p) (values e g a z p))
    (signs (dx e) (dx g) (across e g a z))
    (signs (dy e) (dy g) (down e g a z))
    ∙ sym (inside_is g p)
  where
    none : (a b : ℤ) → a ≡ pos 0 → b ≡ pos 0 → a -ℤ b ≡ pos 0
    none a b h k = rw (h, k)

    signs : (a b : ℤ) → squared e g *ℤ a ≡ multiplied e g *ℤ b → SameSigns a b
    signs a b = same_signs (squared e g) (multiplied e g) a b (squared_lt g l) r.same_way
