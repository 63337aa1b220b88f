-- The six answers are the six tests of the definition, of the numbers read back from the machine's words.
use Prim.Native.Nat.{◌<◌}
use mathlib.Core.Path.{◌≡◌, ◌∙◌, ap, ap₂}
use mathlib.Core.Bool.{◌&&◌}
use native.Mathlib.Omega.{arith}
use lib.IntN.{ℤ}
use lib.Signed.{mag}
use mir.Syntax.{w32}
use mir.Val.{to_z, of_z}
use mir.ValLaws.{to_z-of_z}
use Rattle.rules.specs.Numbers.{vertex_in_range, vertices_in_range}
use Rattle.client.proofs.vertices_in_range.Goals as goal

read : (z : ℤ) → mag z < 2147483648 → vertex_in_range (to_z w32 (of_z w32 z)) ≡ vertex_in_range z
read z h = ap vertex_in_range (to_z-of_z w32 z (record { sfits = h }))

pub returns : goal.returns
unfolding vertices_in_range
returns c =
    let v = c.args.v in
    ap₂ ◌&&◌
    (ap₂ ◌&&◌
    (ap₂ ◌&&◌
    (ap₂ ◌&&◌
    (ap₂ ◌&&◌
    (c.vertex_in_range.ensures ∙ read v.x1 (omega arith))
    (c.vertex_in_range-2.ensures ∙ read v.y1 (omega arith)))
    (c.vertex_in_range-3.ensures ∙ read v.x2 (omega arith)))
    (c.vertex_in_range-4.ensures ∙ read v.y2 (omega arith)))
    (c.vertex_in_range-5.ensures ∙ read v.x3 (omega arith)))
    (c.vertex_in_range-6.ensures ∙ read v.y3 (omega arith))
