-- How near a plane is to the exact value (docs/RULES.md, 6.5). The exact value is a fraction over the doubled area, so both sides are
-- taken times the doubled area, and all numbers are whole.
use Rattle.std.specs.Prelude.{ℕ, ℤ, pos, ◌+ℤ◌, ◌*ℤ◌, ◌≤ℤ◌, ◌<ℤ◌}
use Rattle.rules.specs.declared.Plane.{Plane}
use Rattle.rules.specs.declared.Vertices.{Vertices}
use Rattle.rules.specs.Triangles.{sample, doubled_area}
use Rattle.interpolation.specs.declared.Values.{Values}
use Rattle.interpolation.specs.Interpolation.{numerator, in_units}

-- what a plane has at pixel (x, y), before it is taken modulo 2^32
abbrev pub value_at : Plane → ℕ → ℕ → ℤ
value_at p x y = p.c +ℤ p.a *ℤ pos x +ℤ p.b *ℤ pos y

-- the two that are compared: the plane's value and the exact one in units, both times the doubled area
abbrev pub plane_times : Vertices → Plane → ℕ → ℕ → ℤ
plane_times v p x y = doubled_area v *ℤ value_at p x y

abbrev pub exact_times : Vertices → Values → ℕ → ℕ → ℤ
exact_times v r x y = in_units (numerator v r (sample x y))

-- "the plane must be above the exact value and by at most 1,119 units"
pub record Near (v : Vertices) (r : Values) (p : Plane) (x y : ℕ) : Type 0 where
  pub above : exact_times v r x y <ℤ plane_times v p x y
  pub at_most : plane_times v p x y ≤ℤ (exact_times v r x y +ℤ doubled_area v *ℤ pos 1119)

-- the same value at each vertex
abbrev pub flat : ℤ → Values
flat n = record { r1 = n; r2 = n; r3 = n }

-- each of the three values is from `least` to `greatest`
pub record From (least greatest : ℤ) (r : Values) : Type 0 where
  pub first : (least ≤ℤ r.r1) × (r.r1 ≤ℤ greatest)
  pub second : (least ≤ℤ r.r2) × (r.r2 ≤ℤ greatest)
  pub third : (least ≤ℤ r.r3) × (r.r3 ≤ℤ greatest)
