-- The three ways out of a panel, of n and d as `Waveform::new` reads them.
use mathlib.Core.Path.{◌≡◌, sym, ◌∙◌, ap₂, subst}
use mathlib.Core.Bool.{false, true}
use native.Mathlib.Omega.{arith}
use lib.IntN.{ℤ}
use lib.ListN.{length}
use mir.Syntax.{w32}
use mir.ValLaws.{to_z-of_z}
use Rattle.std.specs.Prelude.{Option, Some, None, IfSome, IfNone}
use Rattle.std.proofs.lemmas.Grind.{common_steps}
use Rattle.waveform.specs.Panel.{Waveform, waveform, good_waveform}
use Rattle.panel.specs.Columns.{PanelDrawn, asked}
use Rattle.panel.proofs.Answers.{refused_by_screen, refused_by_ten, all_drawn}
use Rattle.panel.proofs.panel.Goals as goal

none_of : {A B : Type 0} {o : Option A} → o ≡ None → IfNone o B → B
none_of {B = B} e = subst (λ o. IfNone o B) e

some_of : {A : Type 0} {o : Option A} {v : A} (P : A → Type 0) → o ≡ Some v → IfSome o P → P v
some_of P e = subst (λ o. IfSome o P) e

pub returns-in_err-row_check : goal.returns-in_err-row_check
returns-in_err-row_check c =
    let a = c.args in
    let p = refused_by_screen a.ram.now a.s (waveform a.samples.now a.n a.d a.colour) _ c.in_err-row_check.ensures in
    grind (arith, common_steps)

pub returns-in_err-asked : goal.returns-in_err-asked
returns-in_err-asked c =
    let a = c.args in
    let bad : good_waveform (length a.samples.now) a.n a.d ≡ false =
    sym (ap₂ (good_waveform (length a.samples.now)) (to_z-of_z w32 a.n c.ranges.n) (to_z-of_z w32 a.d c.ranges.d))
    ∙ none_of c.in_err-asked.ensures.ok_part c.new.ensures.none in
    let p = refused_by_ten a.ram.now a.s (waveform a.samples.now a.n a.d a.colour) c.in_ok-row_check.ensures bad in
    grind (arith, common_steps)

pub returns : goal.returns
returns c =
    let a = c.args in
    let w : ℤ → ℤ → Waveform = λ n d. waveform a.samples.now n d a.colour in
    let is : asked c.in_ok-asked.asked ≡ w a.n a.d =
    some_of _ c.in_ok-asked.ensures.ok_part c.new.ensures.some
    ∙ ap₂ w (to_z-of_z w32 a.n c.ranges.n) (to_z-of_z w32 a.d c.ranges.d) in
    all_drawn a.ram.now a.s (w a.n a.d) c.in_ok-row_check.ensures
    (subst (λ (v : Waveform). good_waveform (length v.samples) v.n v.d ≡ true) is c.in_ok-asked.asked.good)
    (subst (λ (v : Waveform). PanelDrawn a.s v a.ram.now c.columns.result c.columns.new.ram) is c.columns.ensures)
