-- docs/RULES.md, 2.1 and 2.2 (01, "Numbers a call answers"): for each kind of call the lowest number that applies.
use Rattle.std.specs.Prelude.{ℕ, Bool, ◌&&◌, ◌||◌, not, ltb, ℤ, pos, negsuc}
use Rattle.std.specs.Int.Signed.{le_z}
use Rattle.rules.specs.declared.Screen.{Screen}
use Rattle.rules.specs.declared.Vertices.{Vertices}
use Rattle.rules.specs.declared.Triangle.{Triangle}
use Rattle.rules.specs.Folds.{pixels, choose}
use Rattle.rules.specs.Sizes.{ram_limit, width, height, sound}
use Rattle.rules.specs.Triangles.{Edge, edge1, edge2, edge3, edge_value, sample}

-- 3: "RAM longer than 4,194,304 bytes"
abbrev pub too_long : ℕ → Bool
too_long ram_length = ltb ram_limit ram_length

-- 6: "a vertex number outside -8192..8191"
abbrev pub vertex_in_range : ℤ → Bool
vertex_in_range v = le_z (negsuc 8191) v && le_z v (pos 8191)

unfoldable pub vertices_in_range : Vertices → Bool
vertices_in_range v =
    vertex_in_range v.x1
    && vertex_in_range v.y1
    && vertex_in_range v.x2
    && vertex_in_range v.y2
    && vertex_in_range v.x3
    && vertex_in_range v.y3

-- 7: "an edge value at some pixel of the screen outside signed 32 bits"
abbrev pub in_signed32 : ℤ → Bool
in_signed32 v = le_z (negsuc 2147483647) v && le_z v (pos 2147483647)

unfoldable pub edge_too_large : Edge → ℕ → ℕ → Bool
edge_too_large e x y = not (in_signed32 (edge_value e (sample x y)))

unfoldable pub triangle_too_large : Vertices → ℕ → ℕ → Bool
triangle_too_large v w h =
    ltb 0 (pixels (λ x y. edge_too_large (edge1 v) x y || edge_too_large (edge2 v) x y || edge_too_large (edge3 v) x y) w h)

-- every call that draws or reads uses 3 and 5: "the lowest number that applies .. wins", so they go before its other numbers
abbrev pub after_screen : ℕ → Screen → ℕ → ℕ
after_screen ram_length s others = choose (too_long ram_length) 3 (choose (not (sound ram_length s)) 5 others)

-- "a clear 3 and 5"
unfoldable pub screen_number : ℕ → Screen → ℕ
screen_number ram_length s = after_screen ram_length s 0

-- "rows 3, 5, 8"; 8: "row not below the height"
unfoldable pub row_number : ℕ → Screen → ℕ → ℕ
row_number ram_length s row = after_screen ram_length s (choose (not (ltb row (height s.size))) 8 0)

-- "triangles 3, 5, 6, 7"
unfoldable pub triangle_number : ℕ → Screen → Triangle → ℕ
triangle_number ram_length s t =
    after_screen ram_length s
    (choose (not (vertices_in_range t.vertices)) 6
    (choose (triangle_too_large t.vertices (width s.size) (height s.size)) 7 0))
