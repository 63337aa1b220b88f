-- From 32 on nothing is left but the sign, as by 32. A signed reading that is shifted rounds down and is no larger, so 64 bits have it.
use Rattle.std.proofs.Common.{arith, ℕ, ◌≡◌, ◌<◌, ◌^◌, min, Bool, true, false, leb, ℤ, refl, sym, ◌∙◌, ap}
use lib.Signed.{shr_z}
use mir.Syntax.{w64}
use borrow.Author.Tests.{leb-true, leb-false}
use Rattle.ints.specs.Modulo.{mod32}
use Rattle.ints.proofs.Machine.{Code, shr, reads_as}
use Rattle.instructions.specs.Arithmetic.{shifted_signed}
use Rattle.instructions.proofs.Shifts.{asr_from_32}
use Rattle.alu.proofs.Readings.{reading}
use Rattle.alu.proofs.arithmetic.shifted_signed.Goals as goal

as_by_32 : (a k : ℕ) → a < 4294967296 → shifted_signed a (min k 32) ≡ shifted_signed a k
as_by_32 a k l = go (leb k 32) refl
  where
    go : (t : Bool) → leb k 32 ≡ t → shifted_signed a (min k 32) ≡ shifted_signed a k
    go true e = ap (shifted_signed a) (omega (arith, leb-true k 32 e))
    go false e =
        let h : 32 < k = leb-false k 32 e in
        ap (shifted_signed a) (omega arith) ∙ asr_from_32 a 32 l (omega arith) ∙ sym (asr_from_32 a k l (omega arith))

pub returns : goal.returns
unfolding shifted_signed
returns c =
    let a : ℕ = c.args.a in
    let shifted : Code w64 = shr (reading c.ranges.a c.signed.ensures) (2 ^ c.min.result) in
    c.low32.ensures
    ∙ ap mod32 (reads_as shifted tt ∙ ap (λ (z : ℤ). shr_z z (2 ^ c.min.result)) c.signed.ensures)
    ∙ ap (shifted_signed a) c.min.ensures
    ∙ as_by_32 a c.args.k c.ranges.a.fits
