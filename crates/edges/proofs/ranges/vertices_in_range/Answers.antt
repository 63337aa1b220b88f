-- Each test is of the number read back from the machine's word.
use Prim.Native.Nat.{◌<◌}
use mathlib.Core.Path.{◌≡◌, ◌∙◌, ap, ap₂}
use mathlib.Core.Bool.{Bool, ◌&&◌}
use native.Mathlib.Omega.{arith}
use lib.IntN.{ℤ}
use lib.Signed.{mag}
use mir.Syntax.{w32}
use mir.Val.{to_z, of_z}
use mir.ValLaws.{to_z-of_z}
use Rattle.rules.specs.Numbers.{vertex_in_range, vertices_in_range}
use Rattle.edges.proofs.ranges.vertices_in_range.Goals as goal

read : {b : Bool} (v : ℤ) → b ≡ vertex_in_range (to_z w32 (of_z w32 v)) → mag v < 2147483648 → b ≡ vertex_in_range v
read v e h = e ∙ ap vertex_in_range (to_z-of_z w32 v (record { sfits = h }))

pub returns : goal.returns
unfolding vertices_in_range
returns c =
    let v = c.args.v in
    ap₂ ◌&&◌
    (ap₂ ◌&&◌
    (ap₂ ◌&&◌
    (ap₂ ◌&&◌
    (ap₂ ◌&&◌ (read v.x1 c.vertex_in_range.ensures (omega arith)) (read v.y1 c.vertex_in_range-2.ensures (omega arith)))
    (read v.x2 c.vertex_in_range-3.ensures (omega arith)))
    (read v.y2 c.vertex_in_range-4.ensures (omega arith)))
    (read v.x3 c.vertex_in_range-5.ensures (omega arith)))
    (read v.y3 c.vertex_in_range-6.ensures (omega arith))
