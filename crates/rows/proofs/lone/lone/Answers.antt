-- A row with nothing covered stays; else the pixel is drawn, and its group's mask has one bit.
use Prim.Native.Nat.{◌%◌}
use mathlib.Core.Path.{◌≡◌, ◌∙◌, ap, subst₂}
use mathlib.Core.Bool.{true}
use native.Mathlib.Omega.{arith}
use lib.Count.{ones}
use lib.ListN.{length, get_or}
use Rattle.rules.specs.Sizes.{colour_at, depth_at}
use Rattle.rules.proofs.Pixels.{Sound, sound_facts, colour-fits, depth-fits}
use Rattle.rows.specs.declared.Line.{Line}
use Rattle.rows.specs.Lines.{covered_in, writing}
use Rattle.rows.specs.Pixels.{PixelDone}
use Rattle.rows.proofs.Covered.{pixel-counts, pixel-leaves}
use Rattle.rows.proofs.Stretch.{covered_on}
use Rattle.rows.proofs.Single.{one_leaf, lone_off, lone_on}
use Rattle.rows.proofs.lone.lone.Goals as goal

pub returns-then-not-on : goal.returns-then-not-on
returns-then-not-on c = lone_off c.requires c.if-not-on.true

pub pixel-requires-clause-colour : goal.pixel-requires-clause-colour
pixel-requires-clause-colour c =
    let facts : Sound (length c.args.ram.now) c.args.line.screen = sound_facts c.requires.is_sound in
    omega (arith, c.colour_at-colour.ensures, colour-fits facts (covered_on c.args.line (c.requires.here ∙ c.if-not-on.false)))

pub pixel-requires-clause-depth : goal.pixel-requires-clause-depth
pixel-requires-clause-depth c =
    let facts : Sound (length c.args.ram.now) c.args.line.screen = sound_facts c.requires.is_sound in
    omega (arith, c.depth_at-depth.ensures, depth-fits facts (covered_on c.args.line (c.requires.here ∙ c.if-not-on.false)))

pub returns : goal.returns
returns c =
    let a = c.args in
    let l : Line = a.line in
    let facts : Sound (length a.ram.now) l.screen = sound_facts c.requires.is_sound in
    let counted : ones (get_or c.of_span-m.result.groups 0 0) ≡ 1 =
    ap (λ groups. ones (get_or groups 0 0)) c.of_span-m.ensures.groups ∙ one_leaf (a.x % 16) (omega arith) in
    let here : covered_in l a.x ≡ true = c.requires.here ∙ c.if-not-on.false in
    let tints = c.at-v.ensures in
    let done : PixelDone (colour_at l.screen a.x l.row) (depth_at l.screen a.x l.row) c.at-v.result
    (writing a.ram.now a.given.written) (writing c.pixel.new.ram c.pixel.result) =
    subst₂
    (λ colour depth.
    PixelDone colour depth c.at-v.result
    (writing a.ram.now a.given.written) (writing c.pixel.new.ram c.pixel.result))
    c.colour_at-colour.ensures
    c.depth_at-depth.ensures
    c.pixel.ensures in
    lone_on c.requires c.if-not-on.false (omega (arith, counted))
    (pixel-counts l a.x facts here tints done)
    (pixel-leaves l a.x facts here tints done)
