-- With no screen it is the halt 17, at a place that is refused 14; else the tree is planted.
use mathlib.Core.Path.{◌≡◌, sym, ◌∙◌, ap, ap₂}
use mathlib.Core.Bool.{Bool}
use lib.ListN.{length}
use Rattle.rules.specs.Folds.{choose}
use Rattle.instructions.specs.declared.Halt.TheVariants.{NoTree}
use Rattle.instructions.specs.Words.{in_r1, in_r2}
use Rattle.instructions.specs.Tree.{refuses_place}
use Rattle.pieces.specs.Pieces.{joined}
use Rattle.pieces.proofs.Cases.{case-TREESET}
use Rattle.pieces.proofs.Joined.{stops_by, stops_with}
use Rattle.views.proofs.Viewed.{plants}
use Rattle.views.proofs.do_treeset.Goals.{After-refuses_place}
use Rattle.views.proofs.do_treeset.Goals as goal

pub returns-in_err-want_screen : goal.returns-in_err-want_screen
returns-in_err-want_screen c =
    λ ram memory given.
    let a = c.args in
    stops_with a.regs.now a.cpu.now given a.view.now memory ram a.w _ _ c.from_residual.ensures.1
    (case-TREESET (length ram) (joined a.regs.now a.cpu.now given a.view.now) a.w c.requires.opcode ∙ rw c.in_err-want_screen.ensures.err.1 (sym c.in_err-want_screen.ensures.err.0))

-- the test is the definition's, of the place that the registers give
is_refused : (c : After-refuses_place)
    → refuses_place c.args.view.now.screen (in_r1 c.args.regs.now c.args.w) (in_r2 c.args.regs.now c.args.w)
    ≡ c.refuses_place.result
is_refused c =
    sym (c.refuses_place.ensures ∙ ap₂ (refuses_place c.args.view.now.screen) c.in_r1-column.ensures c.in_r2-row.ensures)

pub returns-then-refuses_place : goal.returns-then-refuses_place
returns-then-refuses_place c =
    λ ram memory given.
    let a = c.args in
    stops_by a.regs.now a.cpu.now given a.view.now memory ram a.w NoTree
    (case-TREESET (length ram) (joined a.regs.now a.cpu.now given a.view.now) a.w c.requires.opcode
    ∙ rw c.in_ok-want_screen.ensures.ok (ap (λ (t : Bool). choose t 14 0) (is_refused (goal.at.returns-then-refuses_place c).After-refuses_place ∙ c.if-refuses_place.true)))

pub returns : goal.returns
returns c =
    λ ram memory given.
    let a = c.args in
    plants a.regs.now a.cpu.now given a.view.now memory ram a.w
    (case-TREESET (length ram) (joined a.regs.now a.cpu.now given a.view.now) a.w c.requires.opcode
    ∙ rw c.in_ok-want_screen.ensures.ok (ap (λ (t : Bool). choose t 14 0) (is_refused (goal.at.returns c).After-refuses_place ∙ c.if-refuses_place.false)))
    _ c.onward.ensures _ c.requires.opcode
    (c.plant.ensures
    ∙ rw c.tree_set.ensures
    (rw (c.in_r1-column.ensures, c.in_r2-row.ensures, c.in_r3.ensures)))
