-- A screen that is not sound is the halt 17; any other is set, and the tree is dropped.
use mathlib.Core.Path.{◌≡◌, sym, ◌∙◌, ap}
use mathlib.Core.Bool.{Bool, not}
use lib.ListN.{length}
use Rattle.rules.specs.Folds.{choose}
use Rattle.rules.specs.Sizes.{sound}
use Rattle.instructions.specs.declared.Halt.TheVariants.{NoScreen}
use Rattle.instructions.specs.Halts.{screen_set}
use Rattle.pieces.specs.Pieces.{joined}
use Rattle.pieces.proofs.Cases.{case-SCRSET}
use Rattle.pieces.proofs.Joined.{stops_by}
use Rattle.views.proofs.Viewed.{sets_screen}
use Rattle.views.proofs.do_scrset.Goals.{After-sound}
use Rattle.views.proofs.do_scrset.Goals as goal

-- the test is the definition's, of the screen that the registers give
is_sound : (c : After-sound) → sound (length c.args.ram.now) (screen_set c.args.regs.now c.args.w) ≡ c.sound.result
is_sound c = sym (c.sound.ensures ∙ ap (sound (length c.args.ram.now)) c.screen_set-screen.ensures)

pub returns-then-not-sound : goal.returns-then-not-sound
returns-then-not-sound c =
    λ memory given.
    let a = c.args in
    stops_by a.regs.now a.cpu.now given a.view.now memory a.ram.now a.w NoScreen
    (case-SCRSET (length a.ram.now) (joined a.regs.now a.cpu.now given a.view.now) a.w c.requires.opcode
    ∙ ap (λ (t : Bool). choose (not t) 17 0) (is_sound (goal.at.returns-then-not-sound c).After-sound)
    ∙ rw c.if-not-sound.true)

pub returns : goal.returns
returns c =
    λ memory given.
    let a = c.args in
    sets_screen a.regs.now a.cpu.now given a.view.now memory a.ram.now a.w
    (case-SCRSET (length a.ram.now) (joined a.regs.now a.cpu.now given a.view.now) a.w c.requires.opcode
    ∙ ap (λ (t : Bool). choose (not t) 17 0) (is_sound (goal.at.returns c).After-sound)
    ∙ rw c.if-not-sound.false)
    _ c.onward.ensures _ c.requires.opcode
    (c.show.ensures ∙ rw c.screen_set-screen.ensures)
