-- "Two triangles that run along a common edge of non-zero length in opposite directions": there is an edge of non-zero length, a stretch
-- of a side of the one; turned, it is a stretch of a side of the other. Said of any two edges.
use Rattle.std.specs.Prelude.{◌≡◌, ◌⊎◌, ℤ, pos, ◌+ℤ◌, ◌*ℤ◌, ◌≤ℤ◌, ◌<ℤ◌}
use Rattle.rules.specs.Triangles.{Point, Edge, dx, dy, edge_value}
use Rattle.order.specs.Sides.{turned, HasLength}

abbrev pub start : Edge → Point
start e = record { px = e.x1; py = e.y1 }

abbrev pub end : Edge → Point
end e = record { px = e.x2; py = e.y2 }

abbrev pub Between : ℤ → ℤ → ℤ → Type 0
Between a b z = ((a ≤ℤ z) × (z ≤ℤ b)) ⊎ ((b ≤ℤ z) × (z ≤ℤ a))

-- the point lies on the edge: on its line, and between its ends
pub record LiesOn (e : Edge) (p : Point) : Type 0 where
  pub on_line : edge_value e p ≡ pos 0
  pub across : Between e.x1 e.x2 p.px
  pub down : Between e.y1 e.y2 p.py

-- the edge runs along `stretch`, which is a part of it, in its direction
pub record RunsAlong (e stretch : Edge) : Type 0 where
  pub starts : LiesOn e (start stretch)
  pub ends : LiesOn e (end stretch)
  pub same_way : pos 0 <ℤ (dx e *ℤ dx stretch +ℤ dy e *ℤ dy stretch)

pub record InCommon (e f : Edge) : Type 0 where
  pub common : Edge
  pub long : HasLength common
  pub one : RunsAlong e common
  pub other : RunsAlong f (turned common)
