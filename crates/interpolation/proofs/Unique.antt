-- No second answer meets the contract: it settles the number and the plane.
use mathlib.Core.Path.{◌≡◌, sym, ◌∙◌}
use Rattle.rules.specs.declared.Vertices.{Vertices}
use Rattle.interpolation.specs.declared.Values.{Values}
use Rattle.interpolation.specs.declared.Through.{Through}
use Rattle.interpolation.specs.Interpolation.{PassesThrough}

pub through_unique : {v : Vertices} {r : Values} {s t : Through} → PassesThrough v r s → PassesThrough v r t → s ≡ t
through_unique {s = s} {t} p q = λ i. record {
  number = (p.answers ∙ sym q.answers) i;
  plane = (p.gives ∙ sym q.gives) i;
}
