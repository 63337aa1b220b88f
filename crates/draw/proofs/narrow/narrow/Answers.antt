-- The loop's invariant is `Down`, what holds before row y; in each row the column's pixel alone can be covered, and is where it is inside.
use Prim.Native.Nat.{ℕ, ◌<◌}
use mathlib.Core.Path.{◌≡◌, sym, ◌∙◌, subst}
use mathlib.Core.Bool.{true}
use native.Mathlib.Omega.{arith}
use Rattle.rules.specs.Sizes.{height, sound}
use Rattle.rules.proofs.Pixels.{sound_facts, width-le}
use Rattle.rows.specs.Lines.{line}
use Rattle.rows.proofs.Rowed.{covered-is}
use Rattle.draw.specs.Frames.{RowsTouched}
use Rattle.draw.proofs.Framed.{down-first, down_more, down_past, length-down, room-down}
use Rattle.draw.proofs.narrow.narrow.Goals.{After-touched_rows-rows, In-loop-y}
use Rattle.draw.proofs.narrow.narrow.Goals as goal

on_rows : (c : After-touched_rows-rows) → RowsTouched c.args.t.vertices (height c.args.s.size) c.touched_rows-rows.result
on_rows c = subst (λ (n : ℕ). RowsTouched c.args.t.vertices n c.touched_rows-rows.result) c.height.ensures c.touched_rows-rows.ensures

on_screen : (c : In-loop-y) → c.loop-y.y < height c.args.s.size
on_screen c = omega (arith, c.loop-y-test.true, c.touched_rows-rows.ensures.limited, c.height.ensures)

pub loop-y-init : goal.loop-y-init
loop-y-init c = down-first (sound_facts c.requires.asked.is_sound) (on_rows (goal.at.loop-y-init c).After-touched_rows-rows)

pub inside_all-requires-clause-columns : goal.inside_all-requires-clause-columns
inside_all-requires-clause-columns c = omega (arith, c.requires.lies_on_screen, width-le (sound_facts c.requires.asked.is_sound))

pub lone-c-requires : goal.lone-c-requires
lone-c-requires c =
    let a = c.args in
    let l = c.loop-y in
    let row = on_screen (goal.at.lone-c-requires c).In-loop-y in
    let r = line a.s a.t l.y in
    record {
      is_sound = subst (λ (n : ℕ). sound n a.s ≡ true) (sym (length-down l.invariant)) c.requires.asked.is_sound;
      across = c.requires.lies_on_screen;
      here = covered-is r (record { across = c.requires.lies_on_screen; down = row }) ∙ sym c.inside_all.ensures;
      others = λ k h n. covered-is r (record { across = h; down = row }) ∙ c.requires.others k l.y h n;
      room = room-down l.invariant (sound_facts c.requires.asked.is_sound);
    }

pub loop-y-preserved : goal.loop-y-preserved
loop-y-preserved c =
    let row = on_screen (goal.at.loop-y-preserved c).In-loop-y in
    down_more c.loop-y.invariant (sound_facts c.requires.asked.is_sound) row c.lone-c.ensures

pub returns : goal.returns
returns c =
    down_past (sound_facts c.requires.asked.is_sound) (on_rows (goal.at.returns c).After-touched_rows-rows) c.loop-y.invariant
    c.loop-y-test.false
