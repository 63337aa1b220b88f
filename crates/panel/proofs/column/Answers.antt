-- Where the column's ends have nothing between them, nothing is drawn; else the ends of its samples are the column's, and their rows are
-- the bar's.
use Prim.Native.Nat.{ℕ, ◌≤◌}
use mathlib.Core.Path.{◌≡◌, ◌∙◌, ap₂, subst₂}
use native.Mathlib.Omega.{arith}
use lib.IntN.{ℤ}
use lib.ListN.{length}
use mir.Syntax.{w16, w32}
use mir.Val.{SFits, to_z, of_z}
use mir.ValLaws.{to_z-of_z}
use borrow.Author.Rules.{rules}
use Rattle.std.specs.declared.ops.Range.{Range}
use Rattle.rules.specs.declared.Screen.{Screen}
use Rattle.rules.specs.Numbers.{screen_number}
use Rattle.rules.specs.Sizes.{width, height}
use Rattle.rules.proofs.Pixels.{sound_facts, width-le, height-le}
use Rattle.order.proofs.Numbers.{screen-accepted}
use Rattle.waveform.specs.Panel.{row_of, column_samples}
use Rattle.waveform.specs.Bars.{bar, in_bar}
use Rattle.waveform.proofs.Rows.{row_order, row_on_screen}
use Rattle.waveform.proofs.Extremes as extremes
use Rattle.samples.specs.Reached.{Reaches}
use Rattle.samples.proofs.Scale.{scale_least, scale-most}
use Rattle.samples.proofs.Taken.{column-none, column-ends}
use Rattle.panel.specs.Columns.{asked}
use Rattle.panel.proofs.Drawing.{drawn_same, drawn-none, column_is_bar, column_is_empty}
use Rattle.panel.proofs.column.Goals.{After-row_of-2}
use Rattle.panel.proofs.column.Goals as goal

module _ (ram_length : ℕ) (s : Screen) (h : screen_number ram_length s ≡ 0) where
  narrow : width s.size ≤ 640
  narrow = width-le (sound_facts ((screen-accepted ram_length s).0 h).1)

  flat : height s.size ≤ 480
  flat = height-le (sound_facts ((screen-accepted ram_length s).0 h).1)

-- what `reached` answers, of the numbers themselves
reaches : {count : ℕ} {n d : ℤ} {x : ℕ} {r : Range ℕ} → SFits w32 n → SFits w32 d
    → Reaches count (to_z w32 (of_z w32 n)) (to_z w32 (of_z w32 d)) x r
    → Reaches count n d x r
reaches {count} {n} {d} {x} {r} f g = subst₂ (λ n d. Reaches count n d x r) (to_z-of_z w32 n f) (to_z-of_z w32 d g)

-- the row of a sample, as `row_of` answers it
row_is : {row h k : ℕ} {v : ℤ} → SFits w16 v → h ≡ k → row ≡ row_of h (to_z w16 (of_z w16 v)) → row ≡ row_of k v
row_is {v = v} f e k = k ∙ ap₂ row_of e (to_z-of_z w16 v f)

pub reached-numbers-requires-clause-across : goal.reached-numbers-requires-clause-across
reached-numbers-requires-clause-across c = omega (arith, c.requires.across, narrow _ c.args.s c.requires.screen)

pub returns-then-is_empty : goal.returns-then-is_empty
returns-then-is_empty c =
    let a = c.args in
    let f : SFits w32 a.w.n = search rules in
    let g : SFits w32 a.w.d = search rules in
    let none : c.reached-numbers.result.end ≤ c.reached-numbers.result.start = search rules in
    drawn-none _ a.ram.now
    (column_is_empty (asked a.w) a.s a.x
    (column-none (asked a.w) a.x (reaches f g c.reached-numbers.ensures) none))

pub row_of-requires : goal.row_of-requires
row_of-requires c = omega (arith, c.height-h.ensures, flat _ c.args.s c.requires.screen)

pub row_of-requires-2 : goal.row_of-requires-2
row_of-requires-2 c = omega (arith, c.height-h.ensures, flat _ c.args.s c.requires.screen)

-- the ends of the column's samples, and their rows, as the code has them
high_fits : (c : After-row_of-2) → SFits w16 c.ends-e.result.largest
high_fits c = search rules

low_fits : (c : After-row_of-2) → SFits w16 c.ends-e.result.smallest
low_fits c = search rules

top : (c : After-row_of-2) → c.row_of.result ≡ row_of (height c.args.s.size) c.ends-e.result.largest
top c = row_is (high_fits c) c.height-h.ensures c.row_of.ensures

bottom : (c : After-row_of-2) → c.row_of-2.result ≡ row_of (height c.args.s.size) c.ends-e.result.smallest
bottom c = row_is (low_fits c) c.height-h.ensures c.row_of-2.ensures

known : (c : After-row_of-2)
    → extremes.Ends (column_samples (asked c.args.w) c.args.x) c.ends-e.result.largest c.ends-e.result.smallest
known c =
    let a = c.args in
    let f : SFits w32 a.w.n = search rules in
    let g : SFits w32 a.w.d = search rules in
    column-ends (asked a.w) a.x (reaches f g c.reached-numbers.ensures) c.ends-e.ensures

pub invariant_of-bar : goal.invariant_of-bar
invariant_of-bar c =
    let p = (goal.at.invariant_of-bar c).After-row_of-2 in
    let s = c.args.s in
    let f = flat _ s c.requires.screen in
    let h = (sound_facts ((screen-accepted (length c.args.ram.now) s).0 c.requires.screen).1).height_low in
    record {
      across = omega (arith, c.requires.across, narrow _ s c.requires.screen);
      above = omega (arith, f, top p, row_on_screen (scale-most (high_fits p)) (height s.size) (scale_least (high_fits p)) h);
      below = omega (arith, f, bottom p, row_on_screen (scale-most (low_fits p)) (height s.size) (scale_least (low_fits p)) h);
    }

pub fill-requires : goal.fill-requires
fill-requires c =
    let a = c.args in
    let p = (goal.at.fill-requires c).After-row_of-2 in
    let h = (sound_facts ((screen-accepted (length a.ram.now) a.s).0 c.requires.screen).1).height_low in
    record {
      screen = c.requires.screen;
      across = omega (arith, c.requires.across);
      ordered = omega (arith, top p, bottom p, row_order (height a.s.size) (extremes.low-high (known p)) (scale-most (high_fits p)));
      down = omega (arith, bottom p, row_on_screen (scale-most (low_fits p)) (height a.s.size) (scale_least (low_fits p)) h);
      half = omega arith;
    }

pub returns : goal.returns
returns c =
    let a = c.args in
    let p = (goal.at.returns c).After-row_of-2 in
    drawn_same
    (λ x y h v. ap₂ (λ t b. in_bar (bar a.x t b a.w.colour) x y) (top p) (bottom p) ∙ column_is_bar (asked a.w) a.s a.x (known p) x y)
    c.fill.ensures
