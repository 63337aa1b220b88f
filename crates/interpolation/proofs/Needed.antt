-- Both ends of the bound are needed, at pixels that are covered. Raised by one unit less, c gives a plane that is not above the exact value
-- at the last pixel of the largest screen; and three equal values give one that is 1,119 units above it. Both by computation;
-- `flat_attains` has the second for every triangle.
use mathlib.Core.Path.{◌≡◌, refl}
use mathlib.Core.Bool.{true}
use lib.IntN.{pos, negsuc, ◌+ℤ◌, ◌-ℤ◌, ◌*ℤ◌}
use lib.Signed.{◌<ℤ◌}
use Rattle.rules.specs.declared.Screen.{Screen}
use Rattle.rules.specs.declared.Plane.{Plane}
use Rattle.rules.specs.declared.Vertices.{Vertices}
use Rattle.rules.specs.declared.Triangle.{Triangle}
use Rattle.rules.specs.Triangles.{sample, edge_value, keeps_zero, inside, inside_all, doubled_area, covered}
use Rattle.rules.specs.Numbers.{vertices_in_range}
use Rattle.interpolation.specs.declared.Values.{Values}
use Rattle.interpolation.specs.Interpolation.{numerator_a, numerator_b, numerator_c, numerator, rounded_down}
use Rattle.interpolation.specs.Interpolation.{through_c, through_a, through_b}
use Rattle.interpolation.specs.Interpolation.{plane_through, values_in_range, plane_in_range, has_no_plane, through_number, zeros}
use Rattle.interpolation.specs.Nearness.{plane_times, exact_times, flat}

-- (-148, 6152), (-4246, -5964), (7186, 5040)
abbrev pub tight : Vertices
tight = record { x1 = negsuc 147; y1 = pos 6152; x2 = negsuc 4245; y2 = negsuc 5963; x3 = pos 7186; y3 = pos 5040 }

abbrev pub tight_values : Values
tight_values = record { r1 = pos 28928; r2 = pos 28928; r3 = pos 28927 }

abbrev pub tight_triangle : Triangle
tight_triangle = record { vertices = tight; depth = zeros; red = zeros; green = zeros; blue = zeros }

abbrev pub largest : Screen
largest = record { colour = 0; depth = 614400; size = 20960 }

-- raised by one unit less
abbrev pub less_raised : Plane → Plane
less_raised p = record { c = p.c -ℤ pos 1; a = p.a; b = p.b }

pub tight_accepted : through_number tight tight_values ≡ 0
unfolding through_number vertices_in_range has_no_plane values_in_range plane_in_range plane_through through_c through_a through_b rounded_down numerator
    numerator_a numerator_b numerator_c sample doubled_area
tight_accepted = refl

pub tight_covered : covered tight_triangle largest 639 479 ≡ true
unfolding covered inside_all inside keeps_zero edge_value sample
tight_covered = refl

pub less_fails : exact_times tight tight_values 639 479 <ℤ plane_times tight (less_raised (plane_through tight tight_values)) 639 479 → ⊥
unfolding plane_through through_c through_a through_b rounded_down numerator numerator_a numerator_b numerator_c sample doubled_area
less_fails h = h.lt

-- (0, 0), (16, 0), (0, 16): the corner pixel is covered
abbrev pub level : Vertices
level = record { x1 = pos 0; y1 = pos 0; x2 = pos 16; y2 = pos 0; x3 = pos 0; y3 = pos 16 }

abbrev pub level_triangle : Triangle
level_triangle = record { vertices = level; depth = zeros; red = zeros; green = zeros; blue = zeros }

pub level_accepted : through_number level (flat (pos 7)) ≡ 0
unfolding through_number vertices_in_range has_no_plane values_in_range plane_in_range plane_through through_c through_a through_b rounded_down numerator
    numerator_a numerator_b numerator_c sample doubled_area
level_accepted = refl

pub level_covered : covered level_triangle largest 0 0 ≡ true
unfolding covered inside_all inside keeps_zero edge_value sample
level_covered = refl

pub level-attains :
    plane_times level (plane_through level (flat (pos 7))) 0 0 ≡ exact_times level (flat (pos 7)) 0 0 +ℤ doubled_area level *ℤ pos 1119
unfolding plane_through through_c through_a through_b rounded_down numerator numerator_a numerator_b numerator_c sample doubled_area
level-attains = refl
