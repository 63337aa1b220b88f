-- Rows and columns whose sample points lie before or beyond all three vertices hold nothing inside.
use Prim.Native.Nat.{ℕ, ◌+◌, ◌*◌}
use mathlib.Core.Path.{◌≡◌, ◌∙◌, ap, subst, subst₂}
use mathlib.Core.Logic.{◌⊎◌, inl, inr}
use mathlib.Core.Bool.{true, false}
use native.Mathlib.Omega.{arith}
use lib.IntN.{ℤ, pos}
use lib.Signed.{◌<ℤ◌}
use mir.Syntax.{w32}
use mir.Val.{to_z, of_z}
use mir.ValLaws.{to_z-of_z}
use Rattle.ints.proofs.Bounds.{fits_32}
use Rattle.rules.specs.declared.Vertices.{Vertices}
use Rattle.rules.specs.Triangles.{sample_offset, sample, inside_all}
use Rattle.rules.specs.Numbers.{vertex_in_range}
use Rattle.extent.specs.Extent.{Before, Beyond}
use Rattle.std.specs.declared.ops.Range.{Range}
use Rattle.draw.specs.Frames.{ColumnsTouched, RowsTouched, Touched}
use Rattle.edges.proofs.Within.{vertex_within}
use Rattle.extent.proofs.Outside.{above, below, left-of, right_of}

module _ (t : Vertices) (x y : ℕ) where
  pub row_missed : Before t.y1 t.y2 t.y3 y ⊎ Beyond t.y1 t.y2 t.y3 y → inside_all t (sample x y) ≡ false
  unfolding sample
  row_missed (inl b) = above t (sample x y) b.first b.second b.third
  row_missed (inr b) = below t (sample x y) b.first b.second b.third

  pub column_missed : Before t.x1 t.x2 t.x3 x ⊎ Beyond t.x1 t.x2 t.x3 x → inside_all t (sample x y) ≡ false
  unfolding sample
  column_missed (inl b) = left-of t (sample x y) b.first b.second b.third
  column_missed (inr b) = right_of t (sample x y) b.first b.second b.third

-- three numbers that are those of the vertices
module _ {t : Vertices} {a b c : ℤ} {n : ℕ} {r : Range ℕ} where
  pub rows_touched : a ≡ t.y1 → b ≡ t.y2 → c ≡ t.y3 → Touched a b c n r → RowsTouched t n r
  rows_touched p q s h =
      let k : Touched t.y1 t.y2 t.y3 n r =
      subst (λ z. Touched z t.y2 t.y3 n r) p (subst₂ (λ y z. Touched a y z n r) q s h) in
      record {
        ordered = k.ordered;
        limited = k.limited;
        before = λ x y l m. row_missed t x y (k.before y l m);
        beyond = λ x y l m. row_missed t x y (k.beyond y l m);
      }

  pub columns_touched : a ≡ t.x1 → b ≡ t.x2 → c ≡ t.x3 → Touched a b c n r → ColumnsTouched t n r
  columns_touched p q s h =
      let k : Touched t.x1 t.x2 t.x3 n r =
      subst (λ z. Touched z t.x2 t.x3 n r) p (subst₂ (λ y z. Touched a y z n r) q s h) in
      record {
        ordered = k.ordered;
        limited = k.limited;
        before = λ x y l m. column_missed t x y (k.before x l m);
        beyond = λ x y l m. column_missed t x y (k.beyond x l m);
      }

-- three numbers, read back from the machine's words

read_vertex : (v : ℤ) → vertex_in_range v ≡ true → to_z w32 (of_z w32 v) ≡ v
read_vertex v h = to_z-of_z w32 v (fits_32 (vertex_within v h) (omega arith))

pub still_in : (v : ℤ) → vertex_in_range v ≡ true → vertex_in_range (to_z w32 (of_z w32 v)) ≡ true
still_in v h = ap vertex_in_range (read_vertex v h) ∙ h

module _ (a b c : ℤ) (ha : vertex_in_range a ≡ true) (hb : vertex_in_range b ≡ true) (hc : vertex_in_range c ≡ true) (k : ℕ) where
  pub read_before : Before (to_z w32 (of_z w32 a)) (to_z w32 (of_z w32 b)) (to_z w32 (of_z w32 c)) k → Before a b c k
  read_before h =
      record {
        first = subst (λ (z : ℤ). pos (8 * k + sample_offset) <ℤ z) (read_vertex a ha) h.first;
        second = subst (λ (z : ℤ). pos (8 * k + sample_offset) <ℤ z) (read_vertex b hb) h.second;
        third = subst (λ (z : ℤ). pos (8 * k + sample_offset) <ℤ z) (read_vertex c hc) h.third;
      }

  pub read_beyond : Beyond (to_z w32 (of_z w32 a)) (to_z w32 (of_z w32 b)) (to_z w32 (of_z w32 c)) k → Beyond a b c k
  read_beyond h =
      record {
        first = subst (λ (z : ℤ). z <ℤ pos (8 * k + sample_offset)) (read_vertex a ha) h.first;
        second = subst (λ (z : ℤ). z <ℤ pos (8 * k + sample_offset)) (read_vertex b hb) h.second;
        third = subst (λ (z : ℤ). z <ℤ pos (8 * k + sample_offset)) (read_vertex c hc) h.third;
      }

module _ (a b c : ℤ) (ha : vertex_in_range a ≡ true) (hb : vertex_in_range b ≡ true) (hc : vertex_in_range c ≡ true) {n : ℕ} {r : Range ℕ} where
  pub read_touched : Touched (to_z w32 (of_z w32 a)) (to_z w32 (of_z w32 b)) (to_z w32 (of_z w32 c)) n r → Touched a b c n r
  read_touched h =
      subst (λ z. Touched z b c n r) (read_vertex a ha)
      (subst₂ (λ y z. Touched (to_z w32 (of_z w32 a)) y z n r) (read_vertex b hb) (read_vertex c hc) h)
