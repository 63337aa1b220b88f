-- With no screen it is the halt 17; else the screen is sound by the state, so the clear is accepted, and fills it with the two low halves.
use Prim.Native.Nat.{ℕ}
use mathlib.Core.Path.{sym, ◌≡◌, ◌∙◌, ap, ap₂}
use mathlib.Core.Bool.{true}
use lib.ListN.{length}
use Rattle.rules.specs.Calls.{cleared}
use Rattle.instructions.specs.Arithmetic.{low_half}
use Rattle.pieces.specs.Pieces.{joined}
use Rattle.pieces.proofs.Cases.{case-CLS}
use Rattle.pieces.proofs.Joined.{stops_with}
use Rattle.views.proofs.Viewed.{accepts, is_done, clears}
use Rattle.views.proofs.do_cls.Goals as goal

pub returns-in_err-want_screen : goal.returns-in_err-want_screen
returns-in_err-want_screen c =
    λ memory given.
    let a = c.args in
    stops_with a.regs.now a.cpu.now given a.view.now memory a.ram.now a.w _ _ c.from_residual.ensures.1
    (case-CLS (length a.ram.now) (joined a.regs.now a.cpu.now given a.view.now) a.w c.requires.opcode ∙ rw c.in_err-want_screen.ensures.err.1 (sym c.in_err-want_screen.ensures.err.0))

pub unwrap-requires : goal.unwrap-requires
unwrap-requires c =
    is_done _ (c.clear.ensures.answers ∙ accepts c.requires.shows c.in_ok-want_screen.ensures.ok)

pub returns : goal.returns
returns c =
    λ memory given.
    let a = c.args in
    let u : ℕ = c.low_half-colour.result in
    let v : ℕ = c.low_half-depth.result in
    let shown : a.view.now.shown ≡ true = c.in_ok-want_screen.ensures.ok in
    let m : c.clear.new.ram ≡ cleared a.view.now.screen u v a.ram.now =
    rw (accepts c.requires.shows shown) at c.clear.ensures.leaves in
    clears a.regs.now a.cpu.now given a.view.now memory a.ram.now a.w
    (case-CLS (length a.ram.now) (joined a.regs.now a.cpu.now given a.view.now) a.w c.requires.opcode ∙ rw shown)
    _ c.onward.ensures _ c.requires.opcode
    (m
    ∙ ap₂ (λ (x y : ℕ). cleared a.view.now.screen x y a.ram.now)
    (c.low_half-colour.ensures ∙ ap low_half c.in_r1.ensures)
    (c.low_half-depth.ensures ∙ ap low_half c.in_r2.ensures))
