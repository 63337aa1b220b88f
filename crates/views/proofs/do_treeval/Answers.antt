-- With no tree, or with an imm above 3, it is the halt 14; else imm tells a depth from a colour.
use Prim.Native.Nat.{ℕ}
use mathlib.Core.Path.{◌≡◌, sym, ◌∙◌, ap, ap₂}
use lib.ListN.{length}
use lib.Dec.{ltb}
use Rattle.rules.specs.Folds.{choose}
use Rattle.instructions.specs.Opcodes.{current}
use Rattle.instructions.specs.Words.{imm}
use Rattle.instructions.specs.Tree.{tree_val}
use Rattle.instructions.specs.Halts.{word_halt}
use Rattle.pieces.specs.Pieces.{joined}
use Rattle.pieces.proofs.Cases.{case-TREEVAL}
use Rattle.pieces.proofs.Joined.{stops_with}
use Rattle.views.proofs.Viewed.{grows_val}
use Rattle.views.proofs.do_treeval.Goals.{After-tree_val}
use Rattle.views.proofs.do_treeval.Goals as goal

pub returns-in_err-want_tree : goal.returns-in_err-want_tree
returns-in_err-want_tree c =
    λ memory given.
    let a = c.args in
    stops_with a.regs.now.words a.cpu.now given a.view.now memory a.ram.now a.w _ _ c.from_residual.ensures.1
    (case-TREEVAL (length a.ram.now) (joined a.regs.now.words a.cpu.now given a.view.now) a.w c.requires.opcode ∙ rw c.in_err-want_tree.ensures.err.1 (sym c.in_err-want_tree.ensures.err.0))

-- where there is a tree, the halt goes by the imm that the code reads
halt_is : (c : After-tree_val) (given : ℕ)
    → word_halt current (length c.args.ram.now) (joined c.args.regs.now.words c.args.cpu.now given c.args.view.now) c.args.w
    ≡ choose (ltb 3 c.imm.result) 14 0
halt_is c given =
    let a = c.args in
    case-TREEVAL (length a.ram.now) (joined a.regs.now.words a.cpu.now given a.view.now) a.w c.requires.opcode
    ∙ rw c.in_ok-want_tree.ensures.ok (ap (λ (i : ℕ). choose (ltb 3 i) 14 0) (sym c.imm.ensures))

pub returns-in_err-tree_val : goal.returns-in_err-tree_val
returns-in_err-tree_val c =
    λ memory given.
    let a = c.args in
    rw c.in_err-tree_val.ensures.err
    (stops_with a.regs.now.words a.cpu.now given a.view.now memory a.ram.now a.w _ _ c.from_residual-in_err-tree_val.ensures.1
    (halt_is (goal.at.returns-in_err-tree_val c).After-tree_val given ∙ sym c.in_err-tree_val.ensures.halt))

pub returns : goal.returns
returns c =
    λ memory given.
    let a = c.args in
    grows_val a.regs.now.words a.cpu.now given a.view.now memory a.ram.now a.w
    (halt_is (goal.at.returns c).After-tree_val given ∙ sym c.in_ok-tree_val.ensures.halt)
    _ c.onward.ensures c.in_ok-want_tree.ensures.ok _ _ c.put_past.ensures c.requires.opcode
    (c.in_ok-tree_val.ensures.ok
    ∙ ap (λ (i : ℕ). tree_val i a.view.now.screen a.ram.now c.in_r1.result c.in_r2.result a.view.now.tree) c.imm.ensures
    ∙ ap₂ (λ (u v : ℕ). tree_val (imm a.w) a.view.now.screen a.ram.now u v a.view.now.tree) c.in_r1.ensures c.in_r2.ensures)
