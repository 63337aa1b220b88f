-- A triangle that can touch one column alone has nothing inside elsewhere.
use Prim.Native.Nat.{ℕ, ◌+◌}
use mathlib.Core.Path.{◌≡◌, refl}
use mathlib.Core.Bool.{Bool, true, false}
use native.Mathlib.Omega.{arith}
use lib.Dec.{leb}
use borrow.Author.Tests.{leb-true, leb-false}
use Rattle.rules.specs.declared.Vertices.{Vertices}
use Rattle.rules.specs.Triangles.{sample, inside_all}
use Rattle.std.specs.declared.ops.Range.{Range}
use Rattle.draw.specs.Frames.{ColumnsTouched, NothingBut}

pub nothing_but : {t : Vertices} {w : ℕ} {r : Range ℕ} → ColumnsTouched t w r → r.end ≡ r.start + 1 → NothingBut t w r.start
nothing_but {t} {w} {r} u e k y h n = go (leb k r.start) refl
  where
    go : (b : Bool) → leb k r.start ≡ b → inside_all t (sample k y) ≡ false
    go true i = u.before k y h (omega (arith, leb-true k r.start i))
    go false i = u.beyond k y h (omega (arith, leb-false k r.start i))
