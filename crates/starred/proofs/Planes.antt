-- The worked planes hold: the definitions are computed, and what they give is what was worked out from 02, case by case.
use mathlib.Core.Path.{◌≡◌, refl}
use mathlib.Core.List.{map}
use Rattle.rules.specs.Triangles.{sample, doubled_area}
use Rattle.rules.specs.Numbers.{vertices_in_range}
use Rattle.interpolation.specs.Interpolation.{numerator_a, numerator_b, numerator_c, numerator, rounded_down, through_c, through_a, through_b}
use Rattle.interpolation.specs.Interpolation.{plane_through, values_in_range, plane_in_range, has_no_plane, through_number}
use Rattle.starred.specs.WorkedPlanes.{worked_planes}

pub planes_hold : map (λ c. c.gives) worked_planes ≡ map (λ c. c.says) worked_planes
unfolding worked_planes sample doubled_area vertices_in_range numerator_a numerator_b numerator_c
    numerator rounded_down through_c through_a through_b plane_through values_in_range plane_in_range has_no_plane through_number
planes_hold = refl
