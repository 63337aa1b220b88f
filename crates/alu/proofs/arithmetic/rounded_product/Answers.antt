-- The full product of two signed readings is within 64 bits, and the shift rounds it down.
use mathlib.Core.Path.{◌∙◌, ap, ap₂}
use lib.IntN.{ℤ, ◌*ℤ◌}
use lib.Signed.{shr_z}
use mir.Syntax.{w64}
use Rattle.ints.specs.Modulo.{mod32}
use Rattle.ints.proofs.Machine.{Code, ◌⊠◌, shr, reads_as}
use Rattle.instructions.specs.Arithmetic.{rounded_product}
use Rattle.alu.proofs.Readings.{reading}
use Rattle.alu.proofs.arithmetic.rounded_product.Goals as goal

pub returns : goal.returns
unfolding rounded_product
returns c =
    let full : Code w64 = reading c.ranges.a c.signed.ensures
    ⊠ reading c.ranges.b c.signed-2.ensures in
    c.low32.ensures
    ∙ ap mod32 (reads_as (shr full 65536) tt
    ∙ ap₂ (λ (z y : ℤ). shr_z (z *ℤ y) 65536) c.signed.ensures c.signed-2.ensures)
