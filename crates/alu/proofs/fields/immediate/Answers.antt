-- A half-word read as signed and held in 32 bits: a half below 2^15 stays, and any other gets 2^32 less 2^16.
use Rattle.std.proofs.Common.{arith, ℕ, ◌≡◌, ◌<◌, ◌≤◌, ◌%◌, Bool, true, false, ltb, refl, ◌∙◌, ap, ℤ, w16, w32, to_z, of_z}
use lib.Signed.{mag}
use mir.ValLaws.{to_z-of_z}
use borrow.Author.Tests.{ltb-false}
use Rattle.instructions.specs.Words.{sign_extended}
use Rattle.instructions.specs.Arithmetic.{immediate}
use Rattle.alu.proofs.fields.immediate.Goals as goal

extended : (h : ℕ) → h < 65536 → of_z w32 (to_z w16 h) ≡ sign_extended h
unfolding sign_extended
extended h l = go (ltb h 32768) refl
  where
    go : (t : Bool) → ltb h 32768 ≡ t → of_z w32 (to_z w16 h) ≡ sign_extended h
    go true e = rw e refl
    go false e = let m : 32768 ≤ h = ltb-false h 32768 e in rw e (omega arith)

pub returns : goal.returns
unfolding immediate
returns c =
    let half = c.cast_signed.result in
    let small : mag half < 32768 = c.cast_signed.type_inv in
    c.cast_unsigned.ensures
    ∙ ap (λ (z : ℤ). of_z w32 (to_z w32 (of_z w32 z))) (to_z-of_z w16 half (record { sfits = small }))
    ∙ ap (of_z w32) (to_z-of_z w32 half (record { sfits = omega (arith, small) }) ∙ c.cast_signed.ensures)
    ∙ extended (c.args.n % 65536) (omega arith)
