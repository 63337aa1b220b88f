-- The signed sums are within 64 bits by the vertices' range, and what they mean is the definition's value.
use mathlib.Core.Path.{◌≡◌, refl, ◌∙◌}
use native.Mathlib.Omega.{arith}
use mir.Syntax.{w64}
use Rattle.ints.proofs.Machine.{got_nat, Code, known, ◌⊞◌, ◌⊟◌, ◌⊠◌, meant, need, reads_as, size_of}
use Rattle.rules.specs.Triangles.{sample, edge_value}
use Rattle.edges.specs.Corners.{edge_of}
use Rattle.edges.proofs.Within.{EdgeWithin, edge_within}
use Rattle.edges.proofs.Codes.{offset_c, eight_c, answered, x1_c, y1_c}
use Rattle.edges.proofs.values.Edge.value.Goals.{After-dy-dy}
use Rattle.edges.proofs.values.Edge.value.Goals as goal

module _ (c : After-dy-dy) where
  in_range : EdgeWithin (edge_of c.args.self)
  in_range = edge_within (edge_of c.args.self) c.args.self.in_range

  -- the sample point, as the code works it out
  abbrev px : Code w64
  px = eight_c ⊠ known (got_nat {w = w64} c.requires.columns tt) ⊞ offset_c

  abbrev py : Code w64
  py = eight_c ⊠ known (got_nat {w = w64} c.requires.rows tt) ⊞ offset_c

  abbrev upward : Code w64
  upward = (py ⊟ y1_c (edge_of c.args.self) in_range) ⊠ answered c.dx-dx.ensures.distance c.dx-dx.ensures.bound tt

  abbrev leftward : Code w64
  leftward = (px ⊟ x1_c (edge_of c.args.self) in_range) ⊠ answered c.dy-dy.ensures.distance c.dy-dy.ensures.bound tt

  abbrev value : Code w64
  value = upward ⊟ leftward

pub overflow_mul-result : goal.overflow_mul-result
overflow_mul-result c = need (upward (goal.at.overflow_mul-result c).After-dy-dy) tt

pub overflow_mul-result-2 : goal.overflow_mul-result-2
overflow_mul-result-2 c = need (leftward (goal.at.overflow_mul-result-2 c).After-dy-dy) tt

pub overflow_sub-result-3 : goal.overflow_sub-result-3
overflow_sub-result-3 c = need (value (goal.at.overflow_sub-result-3 c).After-dy-dy) tt

meant_value : (c : After-dy-dy) → meant (value c) ≡ edge_value (edge_of c.args.self) (sample c.args.x c.args.y)
unfolding edge_value sample
meant_value c = refl

pub returns-clause-value : goal.returns-clause-value
returns-clause-value c =
    let p = (goal.at.returns-clause-value c).After-dy-dy in
    reads_as (value p) tt ∙ meant_value p

pub returns-clause-bound : goal.returns-clause-bound
returns-clause-bound c = omega (arith, size_of (value (goal.at.returns-clause-bound c).After-dy-dy) tt)
