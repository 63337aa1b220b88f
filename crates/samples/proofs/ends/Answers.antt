-- One sample more keeps the law of the last of the samples so far, in both orders; a sample is read back as itself.
use Prim.Native.Nat.{◌+◌, ◌-◌, ◌<◌}
use mathlib.Core.Path.{◌≡◌}
use native.Mathlib.Omega.{arith}
use lib.IntN.{ℤ}
use lib.ListN.{take, drop}
use mir.Syntax.{w16}
use mir.Val.{SFits}
use borrow.Author.Rules.{rules}
use Rattle.std.proofs.lemmas.List.{length-take, length-drop}
use Rattle.samples.specs.Reached.{at}
use Rattle.waveform.proofs.Extremes.{rising, falling}
use Rattle.samples.proofs.Later.{greater, lesser, last_first_read, last_more_read, last-whole}
use Rattle.samples.proofs.ends.Goals as goal

pub loop-v-init : goal.loop-v-init
loop-v-init c =
    let f : SFits w16 (at c.args.samples.now c.args.numbers.start) = search rules in
    record { high = last-whole rising (omega arith) (last_first_read rising f); low = last-whole falling (omega arith) (last_first_read falling f) }

pub loop-v-preserved : goal.loop-v-preserved
loop-v-preserved c =
    let k = c.loop-v.invariant in
    let i : c.loop-v.v-index < c.args.numbers.end - (c.args.numbers.start + 1) = omega (arith, length-take {A = ℤ}) in
    let f : SFits w16 (at (take (c.args.numbers.end - (c.args.numbers.start + 1)) (drop (c.args.numbers.start + 1) c.args.samples.now)) c.loop-v.v-index) =
    search rules in
    let g = c.max-largest.ensures in
    let l = c.min-smallest.ensures in
    record {
      high = last_more_read rising i f (record { sfits = c.max-largest.type_inv }) k.high (greater g.value g.self_bound g.other_bound);
      low = last_more_read falling i f (record { sfits = c.min-smallest.type_inv }) k.low (lesser l.value l.self_bound l.other_bound);
    }

pub returns : goal.returns
returns c =
    let k = c.loop-v.invariant in
    let e : c.args.numbers.start + 1 + c.loop-v.v-index ≡ c.args.numbers.end = omega (arith, length-take {A = ℤ}, length-drop {A = ℤ}) in
    record { high = last-whole rising e k.high; low = last-whole falling e k.low }
