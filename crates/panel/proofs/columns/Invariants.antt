-- The columns before x are drawn, and their pixels counted.
use Rattle.waveform.specs.Panel.{panel_pixel}
use Rattle.panel.specs.Columns.{PixelsDrawn, asked, in_columns_before}
use Rattle.panel.proofs.columns.Given as goal

abbrev pub invariant-loop-x : goal.invariant-loop-x
invariant-loop-x l = PixelsDrawn l.s (in_columns_before (asked l.w) l.s l.x) (panel_pixel (asked l.w)) l.initial.ram l.pixels l.ram
