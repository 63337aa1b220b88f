-- The edge that a struct of four numbers is.
use Rattle.rules.specs.Triangles.{Edge}
use Rattle.edges.specs.declared.values.Edge.{Edge as InRange}
use Rattle.edges.specs.Edges.{edge_from}

abbrev pub edge_of : InRange → Edge
edge_of e = edge_from e.x1 e.y1 e.x2 e.y2
