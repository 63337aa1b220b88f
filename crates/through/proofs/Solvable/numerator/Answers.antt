-- The three products are within 64 bits, and their sum is Cramer's numerator by differences from the first vertex.
use mathlib.Core.Path.{◌≡◌, sym, ◌∙◌, ap}
use lib.IntN.{ℤ, ◌+ℤ◌, ◌*ℤ◌}
use mir.Syntax.{w32, w64}
use Rattle.ints.proofs.Machine.{got_in, Code, known, cast, ◌⊞◌, ◌⊟◌, ◌⊠◌, meant, need, reads_as}
use Rattle.rules.specs.Triangles.{sample}
use Rattle.edges.proofs.Codes.{offset_c}
use Rattle.interpolation.specs.Interpolation.{numerator, numerator_a, numerator_b}
use Rattle.interpolation.proofs.Cramer.{by_differences}
use Rattle.through.specs.declared.Solvable.{Solvable}
use Rattle.through.proofs.Ranges.{within, area_is_within, a_within, b_within, got_answer}
use Rattle.through.proofs.Solvable.numerator.Goals as goal

module _ (s : Solvable) where
  abbrev x1_c : Code w64
  x1_c = cast w64 (known (got_in {w = w32} (within s).vertices.x1 tt))

  abbrev y1_c : Code w64
  y1_c = cast w64 (known (got_in {w = w32} (within s).vertices.y1 tt))

  abbrev r1_c : Code w64
  r1_c = cast w64 (known (got_in {w = w32} (within s).values.r1 tt))

  -- the three products, two of what the calls answer

  abbrev first_c : Code w64
  first_c = r1_c ⊠ known (got_in (area_is_within s) tt)

  abbrev second_c : {z : ℤ} → z ≡ numerator_a s.corners.vertices s.values → Code w64
  second_c e = known (got_answer e (a_within s) tt) ⊠ (offset_c ⊟ x1_c)

  abbrev third_c : {z : ℤ} → z ≡ numerator_b s.corners.vertices s.values → Code w64
  third_c e = known (got_answer e (b_within s) tt) ⊠ (offset_c ⊟ y1_c)

  abbrev all_c : {y z : ℤ} → y ≡ numerator_a s.corners.vertices s.values → z ≡ numerator_b s.corners.vertices s.values → Code w64
  all_c e f = (first_c ⊞ second_c e) ⊞ third_c f

  sum : {y z : ℤ} (e : y ≡ numerator_a s.corners.vertices s.values) (f : z ≡ numerator_b s.corners.vertices s.values)
      → meant (all_c e f) ≡ numerator s.corners.vertices s.values (sample 0 0)
  unfolding sample
  sum e f =
      ap (λ (d : ℤ). s.values.r1 *ℤ d +ℤ meant (second_c e) +ℤ meant (third_c f)) s.is_area
      ∙ sym (by_differences s.corners.vertices s.values (sample 0 0))

pub overflow_mul-result : goal.overflow_mul-result
overflow_mul-result c = need (first_c c.args.self) tt

pub overflow_mul-result-2 : goal.overflow_mul-result-2
overflow_mul-result-2 c = need (second_c c.args.self c.numerator_a.ensures) tt

pub overflow_add-result : goal.overflow_add-result
overflow_add-result c = need (first_c c.args.self ⊞ second_c c.args.self c.numerator_a.ensures) tt

pub overflow_mul-result-3 : goal.overflow_mul-result-3
overflow_mul-result-3 c = need (third_c c.args.self c.numerator_b.ensures) tt

pub overflow_add-result-2 : goal.overflow_add-result-2
overflow_add-result-2 c = need (all_c c.args.self c.numerator_a.ensures c.numerator_b.ensures) tt

pub returns : goal.returns
returns c =
    let s = c.args.self in
    reads_as (all_c s c.numerator_a.ensures c.numerator_b.ensures) tt
    ∙ sum s c.numerator_a.ensures c.numerator_b.ensures
