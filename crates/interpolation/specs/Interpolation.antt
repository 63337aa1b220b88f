-- docs/RULES.md, 6.5 (02, M-101): "From three vertices (range as in 01) and a whole value 0 to 32,767 at each, give c (at the sample point
-- of pixel (0, 0)), a and b (the steps per pixel)." Whole numbers only.
use Rattle.std.specs.Prelude.{ℕ, ◌≡◌, Bool, ◌&&◌, ◌||◌, not, ℤ, pos, nat_abs, ◌+ℤ◌, ◌-ℤ◌, ◌*ℤ◌}
use Rattle.std.specs.Int.Signed.{le_z, shr_z}
use Rattle.rules.specs.declared.Plane.{Plane}
use Rattle.rules.specs.declared.Vertices.{Vertices}
use Rattle.rules.specs.Folds.{choose}
use Rattle.rules.specs.Triangles.{Point, sample, positive, doubled_area}
use Rattle.rules.specs.Numbers.{vertices_in_range, in_signed32}
use Rattle.rules.specs.Calls.{accepted}
use Rattle.interpolation.specs.declared.Values.{Values}
use Rattle.interpolation.specs.declared.Through.{Through}

-- 001, 4.2: a plane through three values is Ax + By + C, and Cramer's rule gives A, B and C as fractions over one denominator, det.
-- These are det and the three numerators, the terms of each value together; det is the doubled area (proofs/Cramer, `det_is_area`).
abbrev pub det : Vertices → ℤ
det v = v.x1 *ℤ (v.y2 -ℤ v.y3) +ℤ v.x2 *ℤ (v.y3 -ℤ v.y1) +ℤ v.x3 *ℤ (v.y1 -ℤ v.y2)

unfoldable pub numerator_a : Vertices → Values → ℤ
numerator_a v r = r.r1 *ℤ (v.y2 -ℤ v.y3) +ℤ r.r2 *ℤ (v.y3 -ℤ v.y1) +ℤ r.r3 *ℤ (v.y1 -ℤ v.y2)

unfoldable pub numerator_b : Vertices → Values → ℤ
numerator_b v r = r.r1 *ℤ (v.x3 -ℤ v.x2) +ℤ r.r2 *ℤ (v.x1 -ℤ v.x3) +ℤ r.r3 *ℤ (v.x2 -ℤ v.x1)

unfoldable pub numerator_c : Vertices → Values → ℤ
numerator_c v r =
    r.r1 *ℤ (v.x2 *ℤ v.y3 -ℤ v.x3 *ℤ v.y2)
    +ℤ r.r2 *ℤ (v.x3 *ℤ v.y1 -ℤ v.x1 *ℤ v.y3)
    +ℤ r.r3 *ℤ (v.x1 *ℤ v.y2 -ℤ v.x2 *ℤ v.y1)

-- "The exact value at a sample point is the fraction given by Cramer's rule": its numerator; its denominator is the doubled area
unfoldable pub numerator : Vertices → Values → Point → ℤ
numerator v r p = numerator_a v r *ℤ p.px +ℤ numerator_b v r *ℤ p.py +ℤ numerator_c v r

-- ".. in units of 1/65536"
abbrev pub in_units : ℤ → ℤ
in_units n = pos 65536 *ℤ n

-- "Round each of the three numbers down": n divided by d, which is positive where it is asked (proofs/Rounding, `rounded_down_lem`)
unfoldable pub rounded_down : ℤ → ℤ → ℤ
rounded_down n d = shr_z n (nat_abs d)

-- "then raise c by 1,119"
abbrev pub raise : ℤ
raise = pos 1119

unfoldable pub through_c : Vertices → Values → ℤ
through_c v r = rounded_down (in_units (numerator v r (sample 0 0))) (doubled_area v) +ℤ raise

-- "the steps per pixel": a pixel is eight eighths
unfoldable pub through_a : Vertices → Values → ℤ
through_a v r = rounded_down (in_units (pos 8 *ℤ numerator_a v r)) (doubled_area v)

unfoldable pub through_b : Vertices → Values → ℤ
through_b v r = rounded_down (in_units (pos 8 *ℤ numerator_b v r)) (doubled_area v)

unfoldable pub plane_through : Vertices → Values → Plane
plane_through v r = record { c = through_c v r; a = through_a v r; b = through_b v r }

-- 9: "a value outside 0 to 32,767"
abbrev pub value_in_range : ℤ → Bool
value_in_range r = le_z (pos 0) r && le_z r (pos 32767)

unfoldable pub values_in_range : Values → Bool
values_in_range r = value_in_range r.r1 && value_in_range r.r2 && value_in_range r.r3

-- 9: "one of the final three outside signed 32 bits"
unfoldable pub plane_in_range : Plane → Bool
plane_in_range p = in_signed32 p.c && in_signed32 p.a && in_signed32 p.b

-- 9: the two, or "doubled area not positive"
unfoldable pub has_no_plane : Vertices → Values → Bool
has_no_plane v r = not (values_in_range r) || not (positive (doubled_area v)) || not (plane_in_range (plane_through v r))

-- ".. and never otherwise; number 6 goes first"
unfoldable pub through_number : Vertices → Values → ℕ
through_number v r = choose (not (vertices_in_range v)) 6 (choose (has_no_plane v r) 9 0)

-- "a refusal gives three zeros"
abbrev pub zeros : Plane
zeros = record { c = pos 0; a = pos 0; b = pos 0 }

-- what the call answers
pub record PassesThrough (v : Vertices) (r : Values) (answer : Through) : Type 0 where
  pub answers : answer.number ≡ through_number v r
  pub gives : answer.plane ≡ accepted (through_number v r) (plane_through v r) zeros
