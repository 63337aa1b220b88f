-- What drawing a frame promises, and which rows and columns can be left out.
use Rattle.std.specs.Prelude.{ℕ, ◌≤◌, ◌<◌, ◌≡◌, ◌≢◌, ◌⊎◌, true, false, List, ℤ}
use Rattle.std.specs.declared.ops.Range.{Range}
use Rattle.rules.specs.declared.Screen.{Screen}
use Rattle.rules.specs.declared.Vertices.{Vertices}
use Rattle.rules.specs.declared.Triangle.{Triangle}
use Rattle.rules.specs.Sizes.{width, sound}
use Rattle.rules.specs.Numbers.{vertices_in_range}
use Rattle.rules.specs.Triangles.{sample, inside_all, drawn, covered_pixels, written_pixels}
use Rattle.extent.specs.Extent.{Before, Beyond}
use Rattle.rows.specs.Lines.{Drawing}

-- what lies below the limit and outside the span lies before `first` or from `past` on
pub record Clipped (first past limit : ℕ) (r : Range ℕ) : Type 0 where
  pub ordered : r.start ≤ r.end
  pub limited : r.end ≤ limit
  pub before : (k : ℕ) → k < limit → k < r.start → (k < first) ⊎ (past ≤ k)
  pub beyond : (k : ℕ) → k < limit → r.end ≤ k → (k < first) ⊎ (past ≤ k)

-- every place below the limit and outside the span has its sample point before or beyond the three numbers
pub record Touched (a b c : ℤ) (n : ℕ) (r : Range ℕ) : Type 0 where
  pub ordered : r.start ≤ r.end
  pub limited : r.end ≤ n
  pub before : (k : ℕ) → k < n → k < r.start → Before a b c k ⊎ Beyond a b c k
  pub beyond : (k : ℕ) → k < n → r.end ≤ k → Before a b c k ⊎ Beyond a b c k

pub record RowsTouched (t : Vertices) (n : ℕ) (r : Range ℕ) : Type 0 where
  pub ordered : r.start ≤ r.end
  pub limited : r.end ≤ n
  pub before : (x y : ℕ) → y < n → y < r.start → inside_all t (sample x y) ≡ false
  pub beyond : (x y : ℕ) → y < n → r.end ≤ y → inside_all t (sample x y) ≡ false

pub record ColumnsTouched (t : Vertices) (n : ℕ) (r : Range ℕ) : Type 0 where
  pub ordered : r.start ≤ r.end
  pub limited : r.end ≤ n
  pub before : (x y : ℕ) → x < n → x < r.start → inside_all t (sample x y) ≡ false
  pub beyond : (x y : ℕ) → x < n → r.end ≤ x → inside_all t (sample x y) ≡ false

-- in columns other than x, on a screen of w columns, nothing is inside
abbrev pub NothingBut : Vertices → ℕ → ℕ → Type 0
NothingBut t w x = (k y : ℕ) → k < w → k ≢ x → inside_all t (sample k y) ≡ false

pub record FrameAsked (n : ℕ) (s : Screen) (t : Triangle) : Type 0 where
  pub is_sound : sound n s ≡ true
  pub in_range : vertices_in_range t.vertices ≡ true

pub record NarrowAsked (n : ℕ) (s : Screen) (t : Triangle) (x : ℕ) : Type 0 where
  pub asked : FrameAsked n s t
  pub lies_on_screen : x < width s.size
  pub others : NothingBut t.vertices (width s.size) x

pub record FrameDone (m : List ℕ) (s : Screen) (t : Triangle) (after : Drawing) : Type 0 where
  pub covers : after.counts.covered ≡ covered_pixels t s
  pub writes : after.counts.written ≡ written_pixels t s m
  pub leaves : after.ram ≡ drawn t s m
