-- When a plane is given and when not (docs/RULES.md, 6.5), each part of 9 by itself.
use Rattle.std.specs.Prelude.{◌≡◌, true, false}
use Rattle.rules.specs.declared.Vertices.{Vertices}
use Rattle.rules.specs.Triangles.{positive, doubled_area}
use Rattle.rules.specs.Numbers.{in_signed32}
use Rattle.interpolation.specs.declared.Values.{Values}
use Rattle.interpolation.specs.Interpolation.{value_in_range, through_c, through_a, through_b}

-- all that is asked beside vertices in range
pub record HasPlane (v : Vertices) (r : Values) : Type 0 where
  pub first : value_in_range r.r1 ≡ true
  pub second : value_in_range r.r2 ≡ true
  pub third : value_in_range r.r3 ≡ true
  pub area : positive (doubled_area v) ≡ true
  pub c : in_signed32 (through_c v r) ≡ true
  pub a : in_signed32 (through_a v r) ≡ true
  pub b : in_signed32 (through_b v r) ≡ true

-- one part of 9
pub data Lacks (v : Vertices) (r : Values) : Type 0 where
  first_value : value_in_range r.r1 ≡ false → Lacks v r
  second_value : value_in_range r.r2 ≡ false → Lacks v r
  third_value : value_in_range r.r3 ≡ false → Lacks v r
  area : positive (doubled_area v) ≡ false → Lacks v r
  c_outside : in_signed32 (through_c v r) ≡ false → Lacks v r
  a_outside : in_signed32 (through_a v r) ≡ false → Lacks v r
  b_outside : in_signed32 (through_b v r) ≡ false → Lacks v r
