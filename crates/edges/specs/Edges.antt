-- An edge from its four numbers, and the range of a vertex said of an edge.
use Rattle.std.specs.Prelude.{Bool, ◌&&◌, ℤ}
use Rattle.rules.specs.Triangles.{Edge}
use Rattle.rules.specs.Numbers.{vertex_in_range}

abbrev pub edge_from : ℤ → ℤ → ℤ → ℤ → Edge
edge_from a b c d = record { x1 = a; y1 = b; x2 = c; y2 = d }

abbrev pub edge_in_range : Edge → Bool
edge_in_range e = vertex_in_range e.x1 && vertex_in_range e.y1 && vertex_in_range e.x2 && vertex_in_range e.y2
