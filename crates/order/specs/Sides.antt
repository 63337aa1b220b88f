-- A triangle's sides, each with the two others; an edge and a triangle turned; an edge of non-zero length.
use Rattle.std.specs.Prelude.{◌≢◌, ◌⊎◌, Bool, ◌&&◌, pos}
use Rattle.rules.specs.declared.Vertices.{Vertices}
use Rattle.rules.specs.declared.Triangle.{Triangle}
use Rattle.rules.specs.Triangles.{Point, Edge, dx, dy, edge1, edge2, edge3, inside}

pub data Which : Type 0 where
  first second third : Which

abbrev pub side : Triangle → Which → Edge
side t first = edge1 t.vertices
side t second = edge2 t.vertices
side t third = edge3 t.vertices

-- the side that follows, in the vertices' order
abbrev pub next : Which → Which
next first = second
next second = third
next third = first

-- inside the two other sides
abbrev pub inside_others : Triangle → Which → Point → Bool
inside_others t i p = inside (side t (next i)) p && inside (side t (next (next i))) p

-- the same edge in the opposite direction
abbrev pub turned : Edge → Edge
turned e = record { x1 = e.x2; y1 = e.y2; x2 = e.x1; y2 = e.y1 }

abbrev pub HasLength : Edge → Type 0
HasLength e = (dx e ≢ pos 0) ⊎ (dy e ≢ pos 0)

-- the two vertices of a side exchanged
abbrev pub exchanged : Which → Vertices → Vertices
exchanged first v = record { x1 = v.x2; y1 = v.y2; x2 = v.x1; y2 = v.y1; x3 = v.x3; y3 = v.y3 }
exchanged second v = record { x1 = v.x1; y1 = v.y1; x2 = v.x3; y2 = v.y3; x3 = v.x2; y3 = v.y2 }
exchanged third v = record { x1 = v.x3; y1 = v.y3; x2 = v.x2; y2 = v.y2; x3 = v.x1; y3 = v.y1 }

-- "A triangle turned the other way": the same planes
abbrev pub turned_twin : Which → Triangle → Triangle
turned_twin i t =
    record { vertices = exchanged i t.vertices; depth = t.depth; red = t.red; green = t.green; blue = t.blue }
