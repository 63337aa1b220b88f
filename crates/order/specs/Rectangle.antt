-- A rectangle split along a diagonal into two triangles of the winding that draws, and which points lie in it: its left and top sides are
-- in, its right and bottom sides are out. 02's bars are such rectangles ("two triangles with a common diagonal", M-104).
use Rattle.std.specs.Prelude.{◌≡◌, Bool, ◌&&◌, ℤ, ◌<ℤ◌}
use Rattle.std.specs.Int.Signed.{le_z, lt_z}
use Rattle.rules.specs.declared.Triangle.{Triangle}
use Rattle.rules.specs.Triangles.{Point, Edge}
use Rattle.order.specs.Sides.{Which, side, next}

abbrev pub edge_between : Point → Point → Edge
edge_between p q = record { x1 = p.px; y1 = p.py; x2 = q.px; y2 = q.py }

-- the triangle's vertices are p, q and r in this order, of which any may be its first
pub record Corners (t : Triangle) (p q r : Point) : Type 0 where
  pub from : Which
  pub one : side t from ≡ edge_between p q
  pub two : side t (next from) ≡ edge_between q r
  pub three : side t (next (next from)) ≡ edge_between r p

pub record Rectangle : Type 0 where
  pub left : ℤ
  pub top : ℤ
  pub right : ℤ
  pub bottom : ℤ
  pub wide : left <ℤ right
  pub high : top <ℤ bottom

module _ (a : Rectangle) where
  abbrev pub left_top : Point
  left_top = record { px = a.left; py = a.top }

  abbrev pub right_top : Point
  right_top = record { px = a.right; py = a.top }

  abbrev pub right_bottom : Point
  right_bottom = record { px = a.right; py = a.bottom }

  abbrev pub left_bottom : Point
  left_bottom = record { px = a.left; py = a.bottom }

  abbrev pub in_rectangle : Point → Bool
  in_rectangle p = le_z a.left p.px && lt_z p.px a.right && le_z a.top p.py && lt_z p.py a.bottom

  -- along the diagonal from left top to right bottom, or along the other
  pub data Split (t u : Triangle) : Type 0 where
    falling : Corners t left_top right_top right_bottom → Corners u right_bottom left_bottom left_top → Split t u
    rising : Corners t left_top right_top left_bottom → Corners u right_bottom left_bottom right_top → Split t u
