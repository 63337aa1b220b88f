-- A point, an edge, vertices and a triangle moved, so many eighths of a pixel to the right and down; and which pixels are written, judged
-- at other points than the sample points.
use Rattle.std.specs.Prelude.{ℕ, Bool, ◌&&◌, List, ℤ, pos, ◌+ℤ◌}
use Rattle.rules.specs.declared.Screen.{Screen}
use Rattle.rules.specs.declared.Vertices.{Vertices}
use Rattle.rules.specs.declared.Triangle.{Triangle}
use Rattle.rules.specs.Triangles.{Point, Edge, covered_by, at_most_stored}

module _ (right down : ℤ) where
  abbrev pub moved_point : Point → Point
  moved_point p = record { px = p.px +ℤ right; py = p.py +ℤ down }

  abbrev pub moved_edge : Edge → Edge
  moved_edge e = record { x1 = e.x1 +ℤ right; y1 = e.y1 +ℤ down; x2 = e.x2 +ℤ right; y2 = e.y2 +ℤ down }

  abbrev pub moved_vertices : Vertices → Vertices
  moved_vertices v = record {
    x1 = v.x1 +ℤ right;
    y1 = v.y1 +ℤ down;
    x2 = v.x2 +ℤ right;
    y2 = v.y2 +ℤ down;
    x3 = v.x3 +ℤ right;
    y3 = v.y3 +ℤ down;
  }

  -- its planes stay, since they count from pixel (0, 0)
  abbrev pub moved : Triangle → Triangle
  moved t =
      record { vertices = moved_vertices t.vertices; depth = t.depth; red = t.red; green = t.green; blue = t.blue }

-- half a pixel to the right and down
abbrev pub moved_half : Triangle → Triangle
moved_half = moved (pos 4) (pos 4)

-- written, where covered is `covered_by`
abbrev pub written_by : (ℕ → ℕ → Point) → Triangle → Screen → List ℕ → ℕ → ℕ → Bool
written_by at t s m x y = covered_by at t s x y && at_most_stored t s m x y
