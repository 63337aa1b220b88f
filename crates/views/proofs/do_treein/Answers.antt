-- With no tree it is the halt 14; else the leaves are judged by the registers as they were.
use Prim.Native.Nat.{ℕ}
use mathlib.Core.Path.{sym, ◌∙◌, ap₂}
use lib.ListN.{length}
use Rattle.instructions.specs.Tree.{tree_in}
use Rattle.pieces.specs.Pieces.{joined}
use Rattle.pieces.proofs.Cases.{case-TREEIN}
use Rattle.pieces.proofs.Joined.{stops_with}
use Rattle.views.proofs.Viewed.{grows_in}
use Rattle.views.proofs.do_treein.Goals as goal

pub returns-in_err-want_tree : goal.returns-in_err-want_tree
returns-in_err-want_tree c =
    λ ram memory given.
    let a = c.args in
    stops_with a.regs.now.words a.cpu.now given a.view.now memory ram a.w _ _ c.from_residual.ensures.1
    (case-TREEIN (length ram) (joined a.regs.now.words a.cpu.now given a.view.now) a.w c.requires.opcode ∙ rw c.in_err-want_tree.ensures.err.1 (sym c.in_err-want_tree.ensures.err.0))

pub returns : goal.returns
returns c =
    λ ram memory given.
    let a = c.args in
    grows_in a.regs.now.words a.cpu.now given a.view.now memory ram a.w
    (case-TREEIN (length ram) (joined a.regs.now.words a.cpu.now given a.view.now) a.w c.requires.opcode ∙ rw c.in_ok-want_tree.ensures.ok)
    _ c.onward.ensures c.in_ok-want_tree.ensures.ok _ _ c.put_past.ensures c.requires.opcode
    (c.tree_in.ensures
    ∙ ap₂ (λ (u v : ℕ). tree_in u v a.view.now.tree) c.in_r1.ensures c.in_r2.ensures)
