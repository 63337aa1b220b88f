-- With no tree it is the halt 14; else the tree stands on a sound screen by the state.
use mathlib.Core.Path.{sym, ◌∙◌}
use lib.ListN.{length}
use Rattle.pieces.specs.Pieces.{joined}
use Rattle.pieces.proofs.Cases.{case-TREEPUT}
use Rattle.pieces.proofs.Joined.{stops_with}
use Rattle.views.proofs.Viewed.{puts_tree}
use Rattle.views.proofs.do_treeput.Goals as goal

pub returns-in_err-want_tree : goal.returns-in_err-want_tree
returns-in_err-want_tree c =
    λ memory given.
    let a = c.args in
    stops_with a.regs.now a.cpu.now given a.view.now memory a.ram.now a.w _ _ c.from_residual.ensures.1
    (case-TREEPUT (length a.ram.now) (joined a.regs.now a.cpu.now given a.view.now) a.w c.requires.opcode
    ∙ rw c.in_err-want_tree.ensures.err.1 (sym c.in_err-want_tree.ensures.err.0))

pub returns : goal.returns
returns c =
    λ memory given.
    let a = c.args in
    puts_tree a.regs.now a.cpu.now given a.view.now memory a.ram.now a.w
    (case-TREEPUT (length a.ram.now) (joined a.regs.now a.cpu.now given a.view.now) a.w c.requires.opcode
    ∙ rw c.in_ok-want_tree.ensures.ok)
    _ c.onward.ensures _ c.requires.opcode c.tree_put.ensures
