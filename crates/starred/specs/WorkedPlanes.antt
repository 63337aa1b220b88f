-- Planes worked out by hand from 02, M-101: c, a and b from three vertices and three values, both sides of each part of number 9, and how
-- far a plane is above the exact value. D is the doubled area, A and B the numerators of the exact value's steps of an eighth to the right
-- and down (001, 4.2).
use Rattle.std.specs.Prelude.{ℕ, List, [], ◌∷◌, ℤ, pos, ◌-ℤ◌}
use Rattle.rules.specs.declared.Plane.{Plane}
use Rattle.rules.specs.declared.Vertices.{Vertices}
use Rattle.rules.specs.Triangles.{doubled_area}
use Rattle.rules.specs.Calls.{accepted}
use Rattle.interpolation.specs.declared.Values.{Values}
use Rattle.interpolation.specs.Interpolation.{through_c, through_a, through_b, plane_through, through_number, zeros}
use Rattle.interpolation.specs.Nearness.{plane_times, exact_times}
use Rattle.starred.specs.Machine.{minus}

pub record PlaneCase : Type 0 where
  pub says : List ℤ
  pub gives : List ℤ

abbrev pub case : List ℤ → List ℤ → PlaneCase
case says gives = record { says = says; gives = gives }

abbrev pub at : ℤ → ℤ → ℤ → ℤ → ℤ → ℤ → Vertices
at x1 y1 x2 y2 x3 y3 = record { x1 = x1; y1 = y1; x2 = x2; y2 = y2; x3 = x3; y3 = y3 }

abbrev pub values : ℕ → ℕ → ℕ → Values
values a b c = record { r1 = pos a; r2 = pos b; r3 = pos c }

-- the number, c, a and b that are answered
abbrev pub answer : Vertices → Values → List ℤ
answer v r =
    let n = through_number v r in
    let p : Plane = accepted n (plane_through v r) zeros in
    pos n ∷ p.c ∷ p.a ∷ p.b ∷ []

-- c, a and b, whether they are answered or not
abbrev pub numbers : Vertices → Values → List ℤ
numbers v r = through_c v r ∷ through_a v r ∷ through_b v r ∷ []

-- how far the plane is above the exact value at pixel (x, y), times the doubled area
abbrev pub above : Vertices → Values → ℕ → ℕ → ℤ
above v r x y = plane_times v (plane_through v r) x y -ℤ exact_times v r x y

-- the centres of pixels (0, 0), (4, 0) and (0, 4)
abbrev pub centres : Vertices
centres = at (pos 4) (pos 4) (pos 36) (pos 4) (pos 4) (pos 36)

-- D = 256, a right angle at the corner
abbrev pub corner : Vertices
corner = at (pos 0) (pos 0) (pos 16) (pos 0) (pos 0) (pos 16)

-- D = 15
abbrev pub narrow : Vertices
narrow = at (pos 0) (pos 0) (pos 3) (pos 0) (pos 0) (pos 5)

-- D = 1: the second value's difference from the first is A, the third's is B
abbrev pub small : Vertices
small = at (pos 0) (pos 0) (pos 1) (pos 0) (pos 0) (pos 1)

-- long and thin: D = 125,000; A = 16,000·(r2 - r1) + (r3 - r1), B = 7·(r3 - r1) - 13,000·(r2 - r1)
abbrev pub thin : Vertices
thin = at (minus 6496) (minus 7996) (minus 6489) (minus 7997) (pos 6504) (pos 8004)

-- D = 65,536 in both, so that nothing is rounded
abbrev pub even : Vertices
even = at (pos 5) (pos 4) (pos 1776) (pos 5) (minus 4) (pos 41)

abbrev pub steep : Vertices
steep = at (pos 90) (pos 5) (pos 175) (pos 6) (pos 89) (pos 776)

unfoldable pub worked_planes : List PlaneCase
worked_planes =
    -- c is the first value in units, raised by 1,119; a and b are a quarter of the way to the second and the third
    case (pos 0 ∷ pos 656479 ∷ pos 327680 ∷ pos 163840 ∷ []) (answer centres (values 10 30 20))
    -- area 1, 0 on a line, 0 in a point, and -1
    ∷ case (pos 0 ∷ pos 853087 ∷ pos 524288 ∷ pos 1048576 ∷ []) (answer small (values 1 2 3))
    ∷ case (pos 9 ∷ pos 0 ∷ pos 0 ∷ pos 0 ∷ []) (answer (at (pos 0) (pos 0) (pos 1) (pos 1) (pos 2) (pos 2)) (values 1 2 3))
    ∷ case (pos 9 ∷ pos 0 ∷ pos 0 ∷ pos 0 ∷ []) (answer (at (pos 5) (pos 5) (pos 5) (pos 5) (pos 5) (pos 5)) (values 1 2 3))
    ∷ case (pos 9 ∷ pos 0 ∷ pos 0 ∷ pos 0 ∷ []) (answer (at (pos 0) (pos 0) (pos 0) (pos 1) (pos 1) (pos 0)) (values 1 2 3))
    -- a value of 32,767 and of 32,768, of 0 and of -1
    ∷ case (pos 0 ∷ pos 2147419231 ∷ pos 0 ∷ pos 0 ∷ []) (answer small (values 32767 32767 32767))
    ∷ case (pos 9 ∷ pos 0 ∷ pos 0 ∷ pos 0 ∷ []) (answer small (values 32767 32767 32768))
    ∷ case (pos 0 ∷ pos 1119 ∷ pos 0 ∷ pos 0 ∷ []) (answer small (values 0 0 0))
    ∷ case (pos 9 ∷ pos 0 ∷ pos 0 ∷ pos 0 ∷ []) (answer small (record { r1 = pos 0; r2 = minus 1; r3 = pos 0 }))
    -- a thin triangle whose a alone is 2^31, and the greatest a below that which it can have; then -2^31, and the next a below that
    ∷ case (pos 9 ∷ pos 0 ∷ pos 0 ∷ pos 0 ∷ []) (answer thin (values 1 32001 1))
    ∷ case (pos 0 ∷ pos 33887 ∷ pos 2147483643 ∷ minus 1744830494 ∷ []) (answer thin (values 1 32001 0))
    ∷ case (pos 0 ∷ pos 2097153119 ∷ minus 2147483648 ∷ pos 1744830464 ∷ []) (answer thin (values 32000 0 32000))
    ∷ case (pos 9 ∷ pos 0 ∷ pos 0 ∷ pos 0 ∷ []) (answer thin (values 32000 0 31999))
    ∷ case (pos 66655 ∷ pos 2147483648 ∷ minus 1744830464 ∷ []) (numbers thin (values 1 32001 1))
    -- b alone is 2^31, and the next below; then -2^31, and the next below
    ∷ case (pos 9 ∷ pos 0 ∷ pos 0 ∷ pos 0 ∷ []) (answer small (values 0 0 4096))
    ∷ case (pos 0 ∷ pos 1073480799 ∷ pos 0 ∷ pos 2146959360 ∷ []) (answer small (values 0 0 4095))
    ∷ case (pos 0 ∷ minus 805305249 ∷ pos 0 ∷ minus 2147483648 ∷ []) (answer small (values 4096 4096 0))
    ∷ case (pos 9 ∷ pos 0 ∷ pos 0 ∷ pos 0 ∷ []) (answer small (values 4097 4097 0))
    -- the raised c alone is 2^31, and before it is raised 2^31 - 1,119, which fits; then 2^31 - 1
    ∷ case (pos 9 ∷ pos 0 ∷ pos 0 ∷ pos 0 ∷ []) (answer even (values 32767 31026 32767))
    ∷ case (pos 0 ∷ pos 2147483647 ∷ minus 515328 ∷ minus 139520 ∷ []) (answer even (values 32767 31026 32766))
    ∷ case (pos 2147483648 ∷ minus 515336 ∷ minus 125352 ∷ []) (numbers even (values 32767 31026 32767))
    -- c is -2^31, which raising brought in; and -2^31 - 1
    ∷ case (pos 0 ∷ minus 2147483648 ∷ pos 199762680 ∷ pos 287656 ∷ []) (answer steep (values 0 32387 42))
    ∷ case (pos 9 ∷ pos 0 ∷ pos 0 ∷ pos 0 ∷ []) (answer steep (values 0 32387 41))
    -- 6 goes first, whatever else is wrong
    ∷ case (pos 6 ∷ pos 0 ∷ pos 0 ∷ pos 0 ∷ []) (answer (at (pos 8192) (pos 0) (pos 0) (pos 0) (pos 0) (pos 0)) (values 32768 0 0))
    -- all three rounded down, and not toward zero, which would give -73155, -174762 and -104857
    ∷ case (pos 0 ∷ minus 73156 ∷ minus 174763 ∷ minus 104858 ∷ []) (answer narrow (values 1 0 0))
    -- a flat plane is 1,119 units above: 1,119·256
    ∷ case (pos 256 ∷ pos 286464 ∷ []) (doubled_area corner ∷ above corner (values 7 7 7) 0 0 ∷ [])
    ∷ []
