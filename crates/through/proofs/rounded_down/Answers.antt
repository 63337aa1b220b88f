-- The number is folded, divided and folded back.
use mathlib.Core.Path.{◌≡◌, ◌∙◌, ap, ap₂}
use borrow.Author.Rules.{rules}
use lib.IntN.{ℤ, pos}
use lib.Signed.{lt_z, quot_z}
use mir.Syntax.{w64}
use mir.Val.{SFits, to_z, of_z}
use mir.ValLaws.{to_z-of_z}
use Rattle.through.specs.Through.{folded}
use Rattle.through.proofs.Ranges.{reads_back}
use Rattle.through.proofs.Rounded.{rounds_down}
use Rattle.through.proofs.rounded_down.Goals as goal

pub returns : goal.returns
returns c =
    let n = c.args.n in
    let d = c.args.d in
    let f : SFits w64 (quot_z (to_z w64 (of_z w64 c.folded.result)) (to_z w64 (of_z w64 d))) = search rules in
    let read : to_z w64 (of_z w64 n) ≡ n = to_z-of_z w64 n c.ranges.n in
    let once : to_z w64 (of_z w64 c.folded.result) ≡ folded (lt_z n (pos 0)) n =
    reads_back c.folded.type_inv ∙ c.folded.ensures ∙ ap (λ (z : ℤ). folded (lt_z z (pos 0)) z) read in
    reads_back c.folded-2.type_inv
    ∙ c.folded-2.ensures
    ∙ ap₂ (λ (z q : ℤ). folded (lt_z z (pos 0)) q) read (to_z-of_z w64 _ f ∙ ap₂ quot_z once (to_z-of_z w64 d c.ranges.d))
    ∙ rounds_down n d c.requires.positive
