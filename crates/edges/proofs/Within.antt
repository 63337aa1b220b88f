-- An edge between vertices in range: its numbers are within 8,192, its value at a pixel within 419,659,776 and, on the largest screen,
-- within 415,079,688; and what is read back from the machine's words is the same edge. Said once over the edge.
use Prim.Native.Nat.{ℕ, ◌+◌, ◌*◌, ◌≤◌, ◌<◌}
use mathlib.Core.Path.{◌≡◌, ◌∙◌, ap}
use mathlib.Core.Bool.{true, ◌&&◌}
use native.Mathlib.Omega.{arith}
use lib.IntN.{ℤ, ◌-ℤ◌}
use mir.Syntax.{w32}
use mir.Val.{to_z, of_z}
use mir.ValLaws.{to_z-of_z}
use Rattle.std.proofs.lemmas.Int.{ints}
use Rattle.ints.proofs.Bounds.{Within, within_pos, within_sub, within_mul, fits_32}
use Rattle.rules.specs.declared.Vertices.{Vertices}
use Rattle.rules.specs.Triangles.{Edge, dx, dy, edge1, edge2, edge3, edge_value, sample_offset, sample}
use Rattle.rules.specs.Numbers.{vertex_in_range, vertices_in_range}
use Rattle.rules.proofs.Choices.{and_true}
use Rattle.edges.specs.Edges.{edge_from, edge_in_range}

pub record EdgeWithin (e : Edge) : Type 0 where
  pub in_x1 : Within 8192 e.x1
  pub in_y1 : Within 8192 e.y1
  pub in_x2 : Within 8192 e.x2
  pub in_y2 : Within 8192 e.y2

pub vertex_within : (v : ℤ) → vertex_in_range v ≡ true → Within 8192 v
vertex_within v h = record { within = grind (arith, ints) }

record Four (e : Edge) : Type 0 where
  in_x1 : vertex_in_range e.x1 ≡ true
  in_y1 : vertex_in_range e.y1 ≡ true
  in_x2 : vertex_in_range e.x2 ≡ true
  in_y2 : vertex_in_range e.y2 ≡ true

four : (e : Edge) → edge_in_range e ≡ true → Four e
four e h =
    let d = and_true {b = vertex_in_range e.y2} h in
    let c = and_true {b = vertex_in_range e.x2} d.0 in
    let b = and_true {b = vertex_in_range e.y1} c.0 in
    record { in_x1 = b.0; in_y1 = b.1; in_x2 = c.1; in_y2 = d.1 }

pub edge_within : (e : Edge) → edge_in_range e ≡ true → EdgeWithin e
edge_within e h =
    let f = four e h in
    record {
      in_x1 = vertex_within e.x1 f.in_x1;
      in_y1 = vertex_within e.y1 f.in_y1;
      in_x2 = vertex_within e.x2 f.in_x2;
      in_y2 = vertex_within e.y2 f.in_y2;
    }

module _ (e : Edge) (w : EdgeWithin e) where
  -- by how far right and down the point can lie, and how far apart two vertices
  value-by : {right down far : ℕ} (x y : ℕ)
      → 8 * x + sample_offset ≤ right
      → 8 * y + sample_offset ≤ down
      → Within far (dx e)
      → Within far (dy e)
      → Within ((down + 8192) * far + (right + 8192) * far) (edge_value e (sample x y))
  unfolding edge_value sample
  value-by x y r d u v =
      within_sub
      (within_mul (within_sub (within_pos d) w.in_y1) u)
      (within_mul (within_sub (within_pos r) w.in_x1) v)

  -- with room for an offset up to 7
  pub value_within : (x y : ℕ) → x ≤ 640 → y ≤ 512 → Within 419659776 (edge_value e (sample x y))
  value_within x y hx hy =
      value-by {right = 5127} {down = 4103} x y (omega arith) (omega arith)
      (within_sub w.in_x2 w.in_x1)
      (within_sub w.in_y2 w.in_y1)

-- the difference of two vertex numbers, by both ends of their range
difference_within : (a b : ℤ) → vertex_in_range a ≡ true → vertex_in_range b ≡ true → Within 16383 (b -ℤ a)
difference_within a b h k = record { within = grind (arith, ints) }

-- at the sample point, on a screen up to 640 by 480
pub value_bound : (e : Edge) → edge_in_range e ≡ true → (x y : ℕ) → x < 640 → y < 480 → Within 415079688 (edge_value e (sample x y))
value_bound e h x y hx hy =
    let f = four e h in
    value-by e (edge_within e h) {right = 5116} {down = 3836} x y (omega arith) (omega arith)
    (difference_within e.x1 e.x2 f.in_x1 f.in_x2)
    (difference_within e.y1 e.y2 f.in_y1 f.in_y2)

-- the three edges

pub record Six (v : Vertices) : Type 0 where
  pub in_x1 : vertex_in_range v.x1 ≡ true
  pub in_y1 : vertex_in_range v.y1 ≡ true
  pub in_x2 : vertex_in_range v.x2 ≡ true
  pub in_y2 : vertex_in_range v.y2 ≡ true
  pub in_x3 : vertex_in_range v.x3 ≡ true
  pub in_y3 : vertex_in_range v.y3 ≡ true

pub six : (v : Vertices) → vertices_in_range v ≡ true → Six v
unfolding vertices_in_range
six v h =
    let X1 = vertex_in_range v.x1 in
    let Y1 = vertex_in_range v.y1 in
    let X2 = vertex_in_range v.x2 in
    let Y2 = vertex_in_range v.y2 in
    let X3 = vertex_in_range v.x3 in
    let f = and_true {a = X1 && Y1 && X2 && Y2 && X3} {b = vertex_in_range v.y3} h in
    let e = and_true {a = X1 && Y1 && X2 && Y2} {b = X3} f.0 in
    let d = and_true {a = X1 && Y1 && X2} {b = Y2} e.0 in
    let c = and_true {a = X1 && Y1} {b = X2} d.0 in
    let b = and_true {a = X1} {b = Y1} c.0 in
    record { in_x1 = b.0; in_y1 = b.1; in_x2 = c.1; in_y2 = d.1; in_x3 = e.1; in_y3 = f.1 }

-- An edge of any four numbers in range, and vertices of any six.
pub four_in_range : (a b c d : ℤ)
    → vertex_in_range a ≡ true
    → vertex_in_range b ≡ true
    → vertex_in_range c ≡ true
    → vertex_in_range d ≡ true
    → edge_in_range (edge_from a b c d) ≡ true
four_in_range a b c d p q r s = rw (p, q, r, s)

pub six_in_range : (v : Vertices)
    → vertex_in_range v.x1 ≡ true
    → vertex_in_range v.y1 ≡ true
    → vertex_in_range v.x2 ≡ true
    → vertex_in_range v.y2 ≡ true
    → vertex_in_range v.x3 ≡ true
    → vertex_in_range v.y3 ≡ true
    → vertices_in_range v ≡ true
unfolding vertices_in_range
six_in_range v p q r s t u = rw (p, q, r, s, t, u)

module _ (v : Vertices) (h : vertices_in_range v ≡ true) where
  pub edge1_in_range : edge_in_range (edge1 v) ≡ true
  edge1_in_range = let s = six v h in rw (s.in_x1, s.in_y1, s.in_x2, s.in_y2)

  pub edge2_in_range : edge_in_range (edge2 v) ≡ true
  edge2_in_range = let s = six v h in rw (s.in_x2, s.in_y2, s.in_x3, s.in_y3)

  pub edge3_in_range : edge_in_range (edge3 v) ≡ true
  edge3_in_range = let s = six v h in rw (s.in_x3, s.in_y3, s.in_x1, s.in_y1)

  pub edges_in_range : (edge_in_range (edge1 v) ≡ true) × (edge_in_range (edge2 v) ≡ true) × (edge_in_range (edge3 v) ≡ true)
  edges_in_range = (edge1_in_range, edge2_in_range, edge3_in_range)

-- an edge as a callee reads it, from the machine's words
abbrev pub read : Edge → Edge
read e =
    edge_from (to_z w32 (of_z w32 e.x1)) (to_z w32 (of_z w32 e.y1)) (to_z w32 (of_z w32 e.x2)) (to_z w32 (of_z w32 e.y2))

module _ (e : Edge) (h : edge_in_range e ≡ true) where
  pub read_edge : read e ≡ e
  read_edge =
      let w = edge_within e h in
      λ i.
      record {
        x1 = to_z-of_z w32 e.x1 (fits_32 w.in_x1 (omega arith)) i;
        y1 = to_z-of_z w32 e.y1 (fits_32 w.in_y1 (omega arith)) i;
        x2 = to_z-of_z w32 e.x2 (fits_32 w.in_x2 (omega arith)) i;
        y2 = to_z-of_z w32 e.y2 (fits_32 w.in_y2 (omega arith)) i;
      }

  pub read_in_range : edge_in_range (read e) ≡ true
  read_in_range = ap edge_in_range read_edge ∙ h
