-- A column more keeps what is drawn, and no number of pixels is too large.
use Prim.Native.Nat.{ℕ, ◌+◌}
use mathlib.Core.Bool.{Bool}
use native.Mathlib.Omega.{arith}
use lib.ListN.{length}
use Rattle.waveform.specs.Panel.{panel_pixel}
use Rattle.waveform.proofs.Counts.{pixels_fit}
use Rattle.panel.specs.Columns.{PixelsDrawn, asked, in_columns_before}
use Rattle.panel.proofs.Drawing.{columns_none, columns_more, columns_all}
use Rattle.panel.proofs.columns.Goals as goal

pub loop-x-init : goal.loop-x-init
loop-x-init c = columns_none _ c.args.s c.args.ram.now

pub overflow_add-pixels : goal.overflow_add-pixels
overflow_add-pixels c =
    let a = c.args in
    let picked : ℕ → ℕ → Bool = in_columns_before (asked a.w) a.s (c.loop-x.x + 1) in
    let more : PixelsDrawn a.s picked (panel_pixel (asked a.w)) a.ram.now (c.loop-x.pixels + c.column-pixels.result) c.column-pixels.new.ram =
    columns_more (asked a.w) a.s c.loop-x.x c.loop-x.invariant c.column-pixels.ensures in
    record { fits = omega (arith, more.counts, pixels_fit (length a.ram.now) a.s picked c.requires) }

pub loop-x-preserved : goal.loop-x-preserved
loop-x-preserved c = columns_more (asked c.args.w) c.args.s c.loop-x.x c.loop-x.invariant c.column-pixels.ensures

pub returns : goal.returns
returns c = columns_all _ (omega arith) c.loop-x.invariant
