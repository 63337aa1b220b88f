-- Which span of columns is a row's.
use Rattle.std.specs.Prelude.{ℕ, ◌+◌, ◌-◌, ◌/◌, ◌≤◌, ◌<◌, ◌≡◌, Bool, ltb}
use Rattle.rules.specs.declared.Vertices.{Vertices}
use Rattle.rules.specs.Folds.{choose}
use Rattle.rules.specs.Triangles.{sample, inside_all}
use Rattle.masks.specs.Span.{in_span}
use Rattle.std.specs.declared.ops.Range.{Range}
use Rattle.cover.specs.Units.{unit, raise}

-- of two crossings, the one whose column is further right; one where the inside ends does not count
abbrev pub begin : ℕ → Bool → ℕ → ℕ
begin crossing ends least = choose ends least (choose (ltb crossing least) crossing least)

-- the one further left; one where the inside begins does not count
abbrev pub end : ℕ → Bool → ℕ → ℕ
end crossing ends most = choose ends (choose (ltb most crossing) crossing most) most

-- the first column that is not before a crossing
abbrev pub column : ℕ → ℕ
column crossing = (raise - crossing + (unit - 1)) / unit

-- the pixels of row y inside all three edges, among the first w, are those of the columns r
pub record RowSpan (t : Vertices) (y w : ℕ) (r : Range ℕ) : Type 0 where
  pub ordered : r.start ≤ r.end
  pub limited : r.end ≤ w
  pub spans : (x : ℕ) → x < w → inside_all t (sample x y) ≡ in_span r.start r.end x
