-- Number 7 is never answered: with vertices in range and at most 640 by 512 pixels an edge value is within 419,659,776.
use Prim.Native.Nat.{ℕ, ◌≤◌}
use mathlib.Core.Path.{◌≡◌, refl, ◌∙◌, ap}
use mathlib.Core.Bool.{Bool, true, false, ◌&&◌, ◌||◌, not}
use native.Mathlib.Omega.{arith}
use lib.Dec.{leb, ltb}
use lib.IntN.{ℤ, pos, negsuc}
use lib.Signed.{lt_z}
use borrow.Author.Tests.{le-leb}
use Rattle.ints.proofs.Bounds.{Within}
use Rattle.rules.specs.declared.Vertices.{Vertices}
use Rattle.rules.specs.Folds.{pixels}
use Rattle.rules.specs.Triangles.{Edge, edge1, edge2, edge3, edge_value, sample}
use Rattle.rules.specs.Numbers.{in_signed32, vertices_in_range, edge_too_large, triangle_too_large}
use Rattle.rules.proofs.Choices.{not_leb}
use Rattle.rules.proofs.Folds.{pixels-none}
use Rattle.edges.specs.Edges.{edge_in_range}
use Rattle.edges.proofs.Within.{edge_within, value_within, edges_in_range, read, read_in_range}

-- the range as two tests

either : (a b : Bool) → not (a && b) ≡ not a || not b
either true b = refl
either false b = refl

pub out_of_range : (z : ℤ) → not (in_signed32 z) ≡ lt_z z (negsuc 2147483647) || lt_z (pos 2147483647) z
out_of_range (pos n) = not_leb n 2147483647
out_of_range (negsuc n) = rw (either (leb n 2147483647) true, not_leb n 2147483647)

-- never

small : (z : ℤ) → Within 419659776 z → not (in_signed32 z) ≡ false
small (pos n) h = rw (le-leb n 2147483647 (omega (arith, h.within)))
small (negsuc n) h = rw (le-leb n 2147483647 (omega (arith, h.within)))

module _ (e : Edge) (r : edge_in_range e ≡ true) where
  pub never_too_large : (x y : ℕ) → x ≤ 640 → y ≤ 512 → edge_too_large e x y ≡ false
  unfolding edge_too_large
  never_too_large x y hx hy = small (edge_value e (sample x y)) (value_within e (edge_within e r) x y (omega arith) hy)

  pub edge_never_too_large : (w h : ℕ) → w ≤ 640 → h ≤ 512 → ltb 0 (pixels (edge_too_large e) w h) ≡ false
  edge_never_too_large w h hw hh =
      ap (ltb 0) (pixels-none (edge_too_large e) w h (λ x y a b. never_too_large x y (omega arith) (omega arith)))

pub neither : {a b : Bool} → a ≡ false → b ≡ false → a || b ≡ false
neither h k = rw (h, k)

pub triangle_never_too_large : (t : Vertices) → vertices_in_range t ≡ true → (w h : ℕ) → w ≤ 640 → h ≤ 512 → triangle_too_large t w h ≡ false
unfolding triangle_too_large
triangle_never_too_large t r w h hw hh =
    let (r1, r2, r3) = edges_in_range t r in
    ap (ltb 0)
    (pixels-none (λ x y. edge_too_large (edge1 t) x y || edge_too_large (edge2 t) x y || edge_too_large (edge3 t) x y) w h
    (λ x y a b.
    let hx : x ≤ 640 = omega arith in
    let hy : y ≤ 512 = omega arith in
    neither
    (neither (never_too_large (edge1 t) r1 x y hx hy) (never_too_large (edge2 t) r2 x y hx hy))
    (never_too_large (edge3 t) r3 x y hx hy)))

-- what a caller learns, of an edge that the callee reads from the machine's words

module _ (e : Edge) (r : edge_in_range e ≡ true) {b : Bool} where
  pub pixel-answer : {x y : ℕ} → b ≡ edge_too_large (read e) x y → x ≤ 640 → y ≤ 512 → b ≡ false
  pixel-answer {x} {y} k hx hy = k ∙ never_too_large (read e) (read_in_range e r) x y hx hy

  pub edge_answer : {w h : ℕ} → b ≡ ltb 0 (pixels (edge_too_large (read e)) w h) → w ≤ 640 → h ≤ 512 → b ≡ false
  edge_answer {w} {h} k hw hh = k ∙ edge_never_too_large (read e) (read_in_range e r) w h hw hh
