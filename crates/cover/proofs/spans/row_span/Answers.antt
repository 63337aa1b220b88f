-- Of the three edges, the last beginning and the first end; whether they leave a span is their test.
use Prim.Native.Nat.{ℕ}
use mathlib.Core.Path.{◌≡◌, sym, ◌∙◌, ap, subst₂}
use native.Mathlib.Omega.{arith}
use Rattle.cover.specs.Spans.{begin, end, column, RowSpan}
use Rattle.cover.proofs.Meeting.{least_of, most_of, span_none, span_some}
use Rattle.cover.proofs.spans.row_span.Goals.{After-end-most}
use Rattle.cover.proofs.spans.row_span.Goals as goal

module _ (c : After-end-most) where
  least : c.begin-least.result ≡ least_of c.args.m c.args.d
  least =
      let a = c.args in
      c.begin-least.ensures
      ∙ ap (begin a.m.p a.d.p.ends) (c.begin-2.ensures ∙ ap (begin a.m.q a.d.q.ends) c.begin.ensures)

  most : c.end-most.result ≡ most_of c.args.m c.args.d c.args.w
  most =
      let a = c.args in
      c.end-most.ensures
      ∙ ap (end a.m.p a.d.p.ends) (c.end-2.ensures ∙ ap (end a.m.q a.d.q.ends) c.end.ensures)

pub returns-then-least-most : goal.returns-then-least-most
returns-then-least-most c t y v i o h =
    let p = (goal.at.returns-then-least-most c).After-end-most in
    span_none t y v i c.args.d c.args.m o h c.args.w c.requires
    (omega (arith, least p, most p, c.if-least-most.true))

pub returns : goal.returns
returns c t y v i o h =
    let p = (goal.at.returns c).After-end-most in
    subst₂ (λ (f g : ℕ). RowSpan t y c.args.w (record { start = f; end = g }))
    (sym (c.column.ensures ∙ ap column (least p)))
    (sym (c.column-2.ensures ∙ ap column (most p)))
    (span_some t y v i c.args.d c.args.m o h c.args.w c.requires (omega (arith, least p, most p, c.if-least-most.false)))
