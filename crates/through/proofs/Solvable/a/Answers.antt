-- a is the step to the right, eight eighths of A's numerator, in units over the doubled area.
use mathlib.Core.Path.{◌∙◌, ap}
use lib.IntN.{ℤ}
use Rattle.rules.specs.Triangles.{doubled_area}
use Rattle.interpolation.specs.Interpolation.{in_units, rounded_down, through_a}
use Rattle.ints.proofs.Machine.{need, reads_as}
use Rattle.through.proofs.Ranges.{a_within, eight_c, eight_small, reads_back}
use Rattle.through.proofs.Solvable.a.Goals as goal

pub overflow_mul-numerator_a : goal.overflow_mul-numerator_a
overflow_mul-numerator_a c = need (eight_c c.numerator_a.ensures (a_within c.args.self)) tt

pub over_area-requires : goal.over_area-requires
over_area-requires c = eight_small c.numerator_a.ensures (a_within c.args.self)

pub returns : goal.returns
unfolding through_a
returns c =
    reads_back c.over_area.type_inv
    ∙ c.over_area.ensures
    ∙ ap (λ (z : ℤ). rounded_down (in_units z) (doubled_area c.args.self.corners.vertices)) (reads_as (eight_c c.numerator_a.ensures (a_within c.args.self)) tt)
