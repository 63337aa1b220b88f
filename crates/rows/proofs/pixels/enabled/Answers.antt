-- The loop's invariant is `Pass`: what holds after some of the pixels. Its laws are the loop's needs.
use Prim.Native.Nat.{ℕ, ◌+◌, ◌*◌, ◌<◌}
use mathlib.Core.Path.{◌≡◌, sym, subst, subst₂}
use native.Mathlib.Omega.{arith}
use lib.ListN.{length}
use Rattle.rules.proofs.Pixels.{sound_facts, colour-fits, depth-fits}
use Rattle.rows.specs.Lines.{writing}
use Rattle.rows.specs.Pixels.{PixelDone}
use Rattle.rows.proofs.Running.{Leading, leading, pass_first, pass_more, pass_last, length_now, lies_on_screen, few-written}
use Rattle.rows.proofs.Running.{colour-from, depth-from}
use Rattle.rows.proofs.pixels.enabled.Goals.{In-loop-i}
use Rattle.rows.proofs.pixels.enabled.Goals as goal

ends : (c : In-loop-i) → Leading c.args.line c.args.a c.leading_ones-i-end.result
ends c = leading c.requires c.leading_ones-i-end.ensures

-- the pixel's half-words are in the RAM
colour_fits : (c : In-loop-i) → c.colour_at-colour.result + 2 * c.loop-i.i + 1 < length c.loop-i.ram
colour_fits c =
    let a = c.args in
    let u = c.loop-i.invariant in
    subst₂ (λ (m n : ℕ). m + 1 < n) (sym (colour-from a.line.screen a.a a.line.row c.loop-i.i c.colour_at-colour.ensures))
    (sym (length_now c.requires u))
    (colour-fits (sound_facts c.requires.is_sound) (lies_on_screen c.requires u (ends c) c.loop-i-test.true))

depth_fits : (c : In-loop-i) → c.depth_at-depth.result + 2 * c.loop-i.i + 1 < length c.loop-i.ram
depth_fits c =
    let a = c.args in
    let u = c.loop-i.invariant in
    subst₂ (λ (m n : ℕ). m + 1 < n) (sym (depth-from a.line.screen a.a a.line.row c.loop-i.i c.depth_at-depth.ensures))
    (sym (length_now c.requires u))
    (depth-fits (sound_facts c.requires.is_sound) (lies_on_screen c.requires u (ends c) c.loop-i-test.true))

pub loop-i-init : goal.loop-i-init
loop-i-init c = pass_first c.requires c.at-v.ensures

pub overflow_add-colour : goal.overflow_add-colour
overflow_add-colour c =
    let fits = colour_fits (goal.at.overflow_add-colour c).In-loop-i in
    omega (arith, fits)

pub overflow_add-depth : goal.overflow_add-depth
overflow_add-depth c =
    let fits = depth_fits (goal.at.overflow_add-depth c).In-loop-i in
    omega (arith, fits)

pub pixel-written-requires-clause-colour : goal.pixel-written-requires-clause-colour
pixel-written-requires-clause-colour c =
    colour_fits (goal.at.pixel-written-requires-clause-colour c).In-loop-i

pub pixel-written-requires-clause-depth : goal.pixel-written-requires-clause-depth
pixel-written-requires-clause-depth c =
    depth_fits (goal.at.pixel-written-requires-clause-depth c).In-loop-i

pub pixel-written-requires-clause-room : goal.pixel-written-requires-clause-room
pixel-written-requires-clause-room c =
    few-written c.requires c.loop-i.invariant (ends (goal.at.pixel-written-requires-clause-room c).In-loop-i) c.loop-i-test.true

pub loop-i-preserved : goal.loop-i-preserved
loop-i-preserved c =
    let a = c.args in
    let l = c.loop-i in
    let f = c.pixel-written in
    pass_more c.requires l.invariant (ends (goal.at.loop-i-preserved c).In-loop-i) c.loop-i-test.true
    (subst₂ (λ (m n : ℕ). PixelDone m n l.v (writing l.ram l.written) (writing f.new.ram f.result))
    (colour-from a.line.screen a.a a.line.row l.i c.colour_at-colour.ensures)
    (depth-from a.line.screen a.a a.line.row l.i c.depth_at-depth.ensures) f.ensures)
    c.right-v.ensures

pub returns : goal.returns
returns c =
    let e : c.leading_ones-i-end.result ≡ c.loop-i.i = omega (arith, c.loop-i-test.false, c.loop-i.auto.i-end) in
    pass_last c.requires c.loop-i.invariant
    (subst (Leading c.args.line c.args.a) e (leading c.requires c.leading_ones-i-end.ensures))
