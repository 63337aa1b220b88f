-- A list of triangles drawn one after the other, from its first to its last. 02 draws so: "drawing its triangles in order by hand" (M-107).
use Rattle.std.specs.Prelude.{ℕ, List, [], ◌∷◌}
use Rattle.rules.specs.declared.Screen.{Screen}
use Rattle.rules.specs.declared.Triangle.{Triangle}
use Rattle.rules.specs.Triangles.{drawn}

unfoldable pub drawn_all : List Triangle → Screen → List ℕ → List ℕ
drawn_all [] s m = m
drawn_all (t ∷ list) s m = drawn_all list s (drawn t s m)
