-- An edge's differences and its value, and what callees answer, as the machine has them in 64 bits; and what is asked at each difference.
use Prim.Native.Nat.{ℕ, ◌≤◌}
use mathlib.Core.Path.{◌≡◌, sym, ◌∙◌, ap, subst}
use mathlib.Core.Bool.{true}
use native.Mathlib.Omega.{arith}
use lib.Dec.{T, ltb}
use lib.IntN.{ℤ, nat_abs}
use mir.Syntax.{w32, w64}
use mir.Val.{hbits}
use Prim.Native.Nat.{◌^◌}
use Rattle.ints.proofs.Bounds.{Within}
use Rattle.ints.proofs.Machine.{got_in, got_lit, made, Code, known, cast, ◌⊟◌, ◌⊠◌, Asks, need}
use Rattle.rules.specs.Triangles.{Point, Edge, sample_offset, sample, edge_value}
use Rattle.edges.specs.Edges.{edge_in_range}
use Rattle.edges.proofs.Within.{EdgeWithin, value_within, read, read_edge}

abbrev pub offset_c : Code w64
offset_c = known (got_lit w64 sample_offset tt)

abbrev pub eight_c : Code w64
eight_c = known (got_lit w64 8 tt)

-- a number that a callee answers
abbrev pub answered : {z y : ℤ} {b : ℕ} → z ≡ y → nat_abs z ≤ b → T (ltb b (2 ^ hbits w64)) → Code w64
answered {b = b} e h t = known (made {w = w64} e (subst (Within b) e (record { within = h })) t).got

module _ (e : Edge) (w : EdgeWithin e) where
  abbrev pub x1_c : Code w64
  x1_c = cast w64 (known (got_in {w = w32} w.in_x1 tt))

  abbrev pub y1_c : Code w64
  y1_c = cast w64 (known (got_in {w = w32} w.in_y1 tt))

  abbrev pub x2_c : Code w64
  x2_c = cast w64 (known (got_in {w = w32} w.in_x2 tt))

  abbrev pub y2_c : Code w64
  y2_c = cast w64 (known (got_in {w = w32} w.in_y2 tt))

  abbrev pub dx_c : Code w64
  dx_c = x2_c ⊟ x1_c

  abbrev pub dy_c : Code w64
  dy_c = y2_c ⊟ y1_c

  -- at the sample point (px, py)
  module _ (px py : Code w64) where
    abbrev pub left_c : Code w64
    left_c = px ⊟ x1_c

    abbrev pub up_c : Code w64
    up_c = py ⊟ y1_c

    abbrev pub value_c : Code w64
    value_c = up_c ⊠ dx_c ⊟ left_c ⊠ dy_c

-- what is asked where both differences are taken: each number fits, and so does each difference
pub record Differences (e : Edge) (w : EdgeWithin e) : Type 0 where
  pub in_x1 : Asks (x1_c e w)
  pub in_y1 : Asks (y1_c e w)
  pub in_x2 : Asks (x2_c e w)
  pub in_y2 : Asks (y2_c e w)
  pub in_dx : Asks (dx_c e w)
  pub in_dy : Asks (dy_c e w)

pub differences : (e : Edge) (w : EdgeWithin e) → Differences e w
differences e w = record {
  in_x1 = need (x1_c e w) tt;
  in_y1 = need (y1_c e w) tt;
  in_x2 = need (x2_c e w) tt;
  in_y2 = need (y2_c e w) tt;
  in_dx = need (dx_c e w) tt;
  in_dy = need (dy_c e w) tt;
}

-- an edge's value as `edge_value` answers it
abbrev pub answered_c : (e : Edge) → EdgeWithin e → (x y : ℕ) → x ≤ 640 → y ≤ 512 → (z : ℤ) → z ≡ edge_value e (sample x y) → Code w64
answered_c e w x y hx hy z h = known (got_in {b = 419659776} (subst (Within 419659776) (sym h) (value_within e w x y (omega arith) hy)) tt)

-- of the edge that it reads
pub value_answered : (e : Edge) (p : Point) {z : ℤ} → edge_in_range e ≡ true → z ≡ edge_value (read e) p → z ≡ edge_value e p
value_answered e p r h = h ∙ ap (λ (k : Edge). edge_value k p) (read_edge e r)
