-- c is the numerator at pixel (0, 0), in units over the doubled area, raised.
use mathlib.Core.Path.{◌≡◌, ◌∙◌, ap}
use lib.IntN.{ℤ}
use mir.Syntax.{w64}
use mir.Val.{to_z, of_z}
use Rattle.ints.proofs.Machine.{got_lit, Code, known, ◌⊞◌, need, reads_as}
use Rattle.rules.specs.Triangles.{sample, doubled_area}
use Rattle.interpolation.specs.Interpolation.{numerator, in_units, rounded_down, through_c}
use Rattle.through.specs.declared.Solvable.{Solvable}
use Rattle.through.proofs.Ranges.{numerator_within, got_answer, answered, answer_small, units_within}
use Rattle.through.proofs.Solvable.c.Goals as goal

module _ (s : Solvable) where
  abbrev exact : ℤ
  exact = numerator s.corners.vertices s.values (sample 0 0)

  -- of what the two calls answer
  abbrev raised_c : {z q : ℤ} → z ≡ exact → q ≡ rounded_down (in_units (to_z w64 (of_z w64 z))) (doubled_area s.corners.vertices) → Code w64
  raised_c e k =
      known
      (got_answer
      (k ∙ ap (λ (z : ℤ). rounded_down (in_units z) (doubled_area s.corners.vertices)) (answered e (numerator_within s) tt))
      (units_within s.corners.vertices (numerator_within s))
      tt)
      ⊞ known (got_lit w64 1119 tt)

pub over_area-requires : goal.over_area-requires
over_area-requires c = answer_small c.numerator.ensures (numerator_within c.args.self)

pub overflow_add-result : goal.overflow_add-result
overflow_add-result c = need (raised_c c.args.self c.numerator.ensures c.over_area.ensures) tt

pub returns : goal.returns
unfolding through_c
returns c = reads_as (raised_c c.args.self c.numerator.ensures c.over_area.ensures) tt
