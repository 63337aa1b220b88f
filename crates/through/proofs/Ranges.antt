-- Vertex numbers are within 8,192 and values within 32,767, so the doubled area, the numerators and what is divided are well inside 64
-- bits; and what a callee reads from the machine's words is what was given. By bounds that add and multiply.
use Prim.Native.Nat.{ℕ, ◌^◌, ◌≤◌, ◌<◌}
use mathlib.Core.Path.{◌≡◌, sym, ◌∙◌, subst}
use mathlib.Core.Bool.{true, ◌&&◌}
use native.Mathlib.Omega.{arith}
use lib.IntN.{ℤ, pos, nat_abs, ◌*ℤ◌}
use lib.Signed.{le_z, mag, ◌<ℤ◌}
use lib.Dec.{T, ltb}
use mir.Syntax.{w32, w64}
use mir.Val.{hbits, to_z, of_z}
use mir.ValLaws.{to_z-of_z}
use Rattle.ints.proofs.Order.{le_z_true}
use Rattle.ints.proofs.Bounds.{fits_32, Within, within_range, within_lit, within_le, within_sub, within_add, within_mul, within_shr}
use Rattle.ints.proofs.Machine.{Got, got_in, got_lit, Code, known, ◌⊠◌, reads_as}
use Rattle.rules.specs.declared.Vertices.{Vertices}
use Rattle.rules.specs.Triangles.{sample, doubled_area}
use Rattle.rules.specs.Numbers.{vertices_in_range}
use Rattle.rules.proofs.Choices.{and_true}
use Rattle.edges.specs.declared.corners.Corners.{Corners}
use Rattle.edges.proofs.Within.{six, vertex_within}
use Rattle.interpolation.specs.declared.Values.{Values}
use Rattle.interpolation.specs.Interpolation.{value_in_range, values_in_range, numerator_a, numerator_b, numerator}
use Rattle.interpolation.specs.Interpolation.{in_units, raise, rounded_down, through_a, through_b, through_c}
use Rattle.interpolation.proofs.Cramer.{a-by-differences, b-by-differences, by_differences}
use Rattle.through.specs.declared.Solvable.{Solvable}
use Rattle.through.specs.Through.{Small, determinant, CanDivide}

pub record VerticesWithin (v : Vertices) : Type 0 where
  pub x1 : Within 8192 v.x1
  pub y1 : Within 8192 v.y1
  pub x2 : Within 8192 v.x2
  pub y2 : Within 8192 v.y2
  pub x3 : Within 8192 v.x3
  pub y3 : Within 8192 v.y3

pub vertices_within : (v : Vertices) → vertices_in_range v ≡ true → VerticesWithin v
vertices_within v h =
    let s = six v h in
    record {
      x1 = vertex_within v.x1 s.in_x1;
      y1 = vertex_within v.y1 s.in_y1;
      x2 = vertex_within v.x2 s.in_x2;
      y2 = vertex_within v.y2 s.in_y2;
      x3 = vertex_within v.x3 s.in_x3;
      y3 = vertex_within v.y3 s.in_y3;
    }

pub corners_within : (c : Corners) → VerticesWithin c.vertices
corners_within c = vertices_within c.vertices c.in_range

pub record ValuesWithin (r : Values) : Type 0 where
  pub r1 : Within 32767 r.r1
  pub r2 : Within 32767 r.r2
  pub r3 : Within 32767 r.r3

value_within : (r : ℤ) → value_in_range r ≡ true → Within 32767 r
value_within r h =
    let b = and_true {a = le_z (pos 0) r} h in
    within_range (within_lit tt) (within_lit tt) (le_z_true (pos 0) r b.0) (le_z_true r (pos 32767) b.1)

values_within : (r : Values) → values_in_range r ≡ true → ValuesWithin r
unfolding values_in_range
values_within r h =
    let b = and_true {a = value_in_range r.r1 && value_in_range r.r2} {b = value_in_range r.r3} h in
    let a = and_true {a = value_in_range r.r1} {b = value_in_range r.r2} b.0 in
    record { r1 = value_within r.r1 a.0; r2 = value_within r.r2 a.1; r3 = value_within r.r3 b.1 }

pub record AllWithin (v : Vertices) (r : Values) : Type 0 where
  pub vertices : VerticesWithin v
  pub values : ValuesWithin r

pub all_within : (v : Vertices) (r : Values) → vertices_in_range v ≡ true → values_in_range r ≡ true → AllWithin v r
all_within v r h i = record { vertices = vertices_within v h; values = values_within r i }

pub within : (s : Solvable) → AllWithin s.corners.vertices s.values
within s = all_within s.corners.vertices s.values s.corners.in_range s.in_range

-- what is worked out of them

pub area_within : (v : Vertices) → VerticesWithin v → Within 536870912 (doubled_area v)
unfolding doubled_area
area_within v w =
    within_sub
    (within_mul (within_sub w.x2 w.x1) (within_sub w.y3 w.y1))
    (within_mul (within_sub w.x3 w.x1) (within_sub w.y2 w.y1))

module _ (v : Vertices) (r : Values) (h : AllWithin v r) where
  abbrev w : VerticesWithin v
  w = h.vertices

  abbrev u : ValuesWithin r
  u = h.values

  pub numerator_a_within : Within 2147418112 (numerator_a v r)
  numerator_a_within =
      subst (Within 2147418112) (sym (a-by-differences v r))
      (within_sub
      (within_mul (within_sub u.r2 u.r1) (within_sub w.y3 w.y1))
      (within_mul (within_sub u.r3 u.r1) (within_sub w.y2 w.y1)))

  pub numerator_b_within : Within 2147418112 (numerator_b v r)
  numerator_b_within =
      subst (Within 2147418112) (sym (b-by-differences v r))
      (within_sub
      (within_mul (within_sub w.x2 w.x1) (within_sub u.r3 u.r1))
      (within_mul (within_sub w.x3 w.x1) (within_sub u.r2 u.r1)))

  pub exact_within : Within 52792126865408 (numerator v r (sample 0 0))
  unfolding sample
  exact_within =
      subst (Within 52792126865408) (sym (by_differences v r (sample 0 0)))
      (within_add
      (within_add (within_mul u.r1 (area_within v w)) (within_mul numerator_a_within (within_sub (within_lit {n = 4} {z = pos 4} tt) w.x1)))
      (within_mul numerator_b_within (within_sub (within_lit {n = 4} {z = pos 4} tt) w.y1)))

module _ (s : Solvable) where
  pub a_within : Within 2147418112 (numerator_a s.corners.vertices s.values)
  a_within = numerator_a_within s.corners.vertices s.values (within s)

  pub b_within : Within 2147418112 (numerator_b s.corners.vertices s.values)
  b_within = numerator_b_within s.corners.vertices s.values (within s)

  pub numerator_within : Within 52792126865408 (numerator s.corners.vertices s.values (sample 0 0))
  numerator_within = exact_within s.corners.vertices s.values (within s)

-- what a callee answered, as the machine has it
module _ {b : ℕ} {z y : ℤ} (e : z ≡ y) (h : Within b y) where
  pub got_answer : T (ltb b (2 ^ hbits w64)) → Got w64 (of_z w64 z) y b
  got_answer t = subst (λ (x : ℤ). Got w64 (of_z w64 x) y b) (sym e) (got_in h t)

  pub answered : T (ltb b (2 ^ hbits w64)) → to_z w64 (of_z w64 z) ≡ y
  answered t = (got_answer t).reads

-- a result of 64 bits, read back from the machine's word
pub reads_back : {z : ℤ} → mag z < 9223372036854775808 → to_z w64 (of_z w64 z) ≡ z
reads_back {z} f = to_z-of_z w64 z (record { sfits = f })

-- three numbers as a callee reads them from the machine's words

pub read : {n : ℕ} {z : ℤ} → Within n z → n ≤ 2147483647 → to_z w32 (of_z w32 z) ≡ z
read {n} {z} h l = to_z-of_z w32 z (fits_32 h (omega (arith, l)))

pub small : {n : ℕ} {a b c : ℤ} → Within n a → Within n b → Within n c → n ≤ 32767
    → Small (to_z w32 (of_z w32 a)) (to_z w32 (of_z w32 b)) (to_z w32 (of_z w32 c))
small {n} {a} {b} {c} ha hb hc l = record { first = one ha; second = one hb; third = one hc }
  where
    one : {z : ℤ} → Within n z → nat_abs (to_z w32 (of_z w32 z)) ≤ 32767
    one {z} h = subst (λ (y : ℤ). nat_abs y ≤ 32767) (sym (read h (omega (arith, l)))) (within_le l h).within

-- what `determinant` answers of six such numbers
pub determinant-answer : {m n : ℕ} {z a b c d e f : ℤ}
    → z
    ≡ determinant
    (to_z w32 (of_z w32 a)) (to_z w32 (of_z w32 b)) (to_z w32 (of_z w32 c))
    (to_z w32 (of_z w32 d)) (to_z w32 (of_z w32 e)) (to_z w32 (of_z w32 f))
    → Within m a
    → Within m b
    → Within m c
    → Within n d
    → Within n e
    → Within n f
    → m ≤ 32767
    → n ≤ 32767
    → z ≡ determinant a b c d e f
determinant-answer {m} {n} h ha hb hc hd he hf l k =
    let p : m ≤ 2147483647 = omega (arith, l) in
    let q : n ≤ 2147483647 = omega (arith, k) in
    h ∙ (λ i. determinant (read ha p i) (read hb p i) (read hc p i) (read hd q i) (read he q i) (read hf q i))

-- a quotient, of numbers that the machine has

rounded_within : {b : ℕ} {n : ℤ} (d : ℤ) → Within b n → Within b (rounded_down n d)
unfolding rounded_down
rounded_within d h = within_shr (nat_abs d) h

pub can_divide : {n d x y : ℤ} → x ≡ n → y ≡ d → Within 4611686018427387904 n → pos 0 <ℤ d → CanDivide x y
can_divide {n} {d} p q h l = record {
  small = subst (λ (z : ℤ). nat_abs z ≤ 4611686018427387904) (sym p) h.within;
  positive = subst (λ (z : ℤ). pos 0 <ℤ z) (sym q) l;
}

pub area_is_within : (s : Solvable) → Within 536870912 s.area
area_is_within s = subst (Within 536870912) (sym s.is_area) (area_within s.corners.vertices (within s).vertices)

-- in units

pub units_within : {n : ℤ} (v : Vertices)
    → Within 52792126865408 n
    → Within 3459784826251378688 (rounded_down (in_units n) (doubled_area v))
units_within v h = rounded_within (doubled_area v) (within_mul (within_lit {n = 65536} {z = pos 65536} tt) h)

pub can_divide_by_area : {n z : ℤ} → z ≡ n → Within 52792126865408 n → nat_abs z ≤ 52792126865408
can_divide_by_area e h = subst (λ (y : ℤ). nat_abs y ≤ 52792126865408) (sym e) h.within

-- eight times a numerator of A or B, as it is answered

abbrev pub eight_c : {z y : ℤ} → z ≡ y → Within 2147418112 y → Code w64
eight_c e h = known (got_lit w64 8 tt) ⊠ known (got_answer e h tt)

pub in_eights : {n : ℤ} → Within 2147418112 n → Within 52792126865408 (pos 8 *ℤ n)
in_eights h = within_le (omega arith) (within_mul (within_lit {n = 8} {z = pos 8} tt) h)

pub eight_small : {z y : ℤ} → z ≡ y → Within 2147418112 y → nat_abs (to_z w64 (of_z w64 (pos 8 *ℤ to_z w64 (of_z w64 z)))) ≤ 52792126865408
eight_small e h = subst (λ (x : ℤ). nat_abs x ≤ 52792126865408) (sym (reads_as (eight_c e h) tt)) (in_eights h).within

pub answer_small : {z y : ℤ} → z ≡ y → Within 52792126865408 y → nat_abs (to_z w64 (of_z w64 z)) ≤ 52792126865408
answer_small e h = subst (λ (x : ℤ). nat_abs x ≤ 52792126865408) (sym (answered e h tt)) h.within

-- the three numbers, before it is known whether they fit 32 bits

module _ (v : Vertices) (r : Values) (h : AllWithin v r) where
  pub c-small : Within 3459784826251379807 (through_c v r)
  unfolding through_c
  c-small = within_add (units_within v (exact_within v r h)) (within_lit {n = 1119} {z = raise} tt)

  pub a_small : Within 3459784826251378688 (through_a v r)
  unfolding through_a
  a_small = units_within v (in_eights (numerator_a_within v r h))

  pub b-small : Within 3459784826251378688 (through_b v r)
  unfolding through_b
  b-small = units_within v (in_eights (numerator_b_within v r h))
