-- The loop's invariant is `Down`, what holds before row y, and the crossings of that row. Rows that the triangle
-- cannot touch are skipped by its law.
use Prim.Native.Nat.{ℕ, ◌<◌}
use mathlib.Core.Path.{◌≡◌, sym, ◌∙◌, subst}
use mathlib.Core.Bool.{true}
use native.Mathlib.Omega.{arith}
use Rattle.rules.specs.Sizes.{width, height, sound}
use Rattle.rules.proofs.Pixels.{sound_facts, width-le, height-le}
use Rattle.cover.specs.Spans.{RowSpan}
use Rattle.cover.proofs.Crossing.{crossings_can_go_below}
use Rattle.rows.specs.Lines.{line}
use Rattle.rows.proofs.Rowed.{covered-is}
use Rattle.draw.specs.Frames.{RowsTouched}
use Rattle.draw.proofs.Framed.{down-first, down_more, down_past, length-down, room-down}
use Rattle.draw.proofs.frames.frame.Goals.{After-touched_rows-rows, In-loop-y}
use Rattle.draw.proofs.frames.frame.Goals as goal

on_rows : (c : After-touched_rows-rows) → RowsTouched c.args.t.vertices (height c.args.s.size) c.touched_rows-rows.result
on_rows c = subst (λ (n : ℕ). RowsTouched c.args.t.vertices n c.touched_rows-rows.result) c.height.ensures c.touched_rows-rows.ensures

on_screen : (c : In-loop-y) → c.loop-y.y < height c.args.s.size
on_screen c = omega (arith, c.loop-y-test.true, c.touched_rows-rows.ensures.limited, c.height.ensures)

pub loop-y-init : goal.loop-y-init
loop-y-init c =
    (down-first (sound_facts c.requires.is_sound) (on_rows (goal.at.loop-y-init c).After-touched_rows-rows), c.crossings_at-m.ensures)

pub row_span-requires : goal.row_span-requires
row_span-requires c =
    omega (arith, c.width-w.ensures, width-le (sound_facts c.requires.is_sound))

pub row-c-requires : goal.row-c-requires
row-c-requires c =
    let a = c.args in
    let l = c.loop-y in
    let f = sound_facts c.requires.is_sound in
    let row = on_screen (goal.at.row-c-requires c).In-loop-y in
    let r : RowSpan a.t.vertices l.y (width a.s.size) c.row_span.result =
    subst (λ (n : ℕ). RowSpan a.t.vertices l.y n c.row_span.result) c.width-w.ensures
    (c.row_span.ensures a.t.vertices l.y c.requires.in_range (omega (arith, row, height-le f)) c.sides-d.ensures l.invariant.1) in
    record {
      is_sound = subst (λ (n : ℕ). sound n a.s ≡ true) (sym (length-down l.invariant.0)) c.requires.is_sound;
      ordered = r.ordered;
      limited = r.limited;
      spans = λ x h. covered-is (line a.s a.t l.y) (record { across = h; down = row }) ∙ r.spans x h;
      room = room-down l.invariant.0 f;
    }

pub crossings_below-m-requires : goal.crossings_below-m-requires
crossings_below-m-requires c =
    let l = c.loop-y in
    let row = on_screen (goal.at.crossings_below-m-requires c).In-loop-y in
    crossings_can_go_below c.args.t.vertices c.requires.in_range l.y (omega (arith, row, height-le (sound_facts c.requires.is_sound)))
    c.sides-d.result l.m c.sides-d.ensures l.invariant.1

pub loop-y-preserved : goal.loop-y-preserved
loop-y-preserved c =
    let l = c.loop-y in
    let row = on_screen (goal.at.loop-y-preserved c).In-loop-y in (
      down_more l.invariant.0 (sound_facts c.requires.is_sound) row c.row-c.ensures,
      c.crossings_below-m.ensures c.args.t.vertices l.y c.sides-d.ensures l.invariant.1,
    )

pub returns : goal.returns
returns c =
    down_past (sound_facts c.requires.is_sound) (on_rows (goal.at.returns c).After-touched_rows-rows) c.loop-y.invariant.0 c.loop-y-test.false
