-- The words of the contracts inside: pixels drawn and counted, a column, and the columns before one.
use Rattle.std.specs.Prelude.{ℕ, ◌≡◌, Bool, ◌&&◌, List, ltb, eqb}
use Rattle.rules.specs.declared.Screen.{Screen}
use Rattle.rules.specs.Folds.{pixels}
use Rattle.rules.specs.Sizes.{width, height, Pixel}
use Rattle.order.specs.Pointwise.{Painted}
use Rattle.waveform.specs.Panel.{Waveform, waveform, in_panel, panel_pixel}
use Rattle.waveform.specs.Bars.{Bar, bar}
use Rattle.panel.specs.declared.bars.Bar.{Bar as Column}
use Rattle.panel.specs.declared.waveforms.Waveform.{Waveform as Asked}

-- what is asked for, as its struct has it, and a bar likewise
abbrev pub asked : Asked → Waveform
asked w = waveform w.samples.now w.n w.d w.colour

abbrev pub bar_of : Column → Bar
bar_of b = bar b.x b.top b.bottom b.colour

-- `count` pixels, those that the test picks, are drawn
pub record PixelsDrawn (s : Screen) (picked : ℕ → ℕ → Bool) (new : ℕ → ℕ → Pixel) (m : List ℕ) (count : ℕ) (after : List ℕ) : Type 0 where
  pub paints : Painted s picked new m after
  pub counts : count ≡ pixels picked (width s.size) (height s.size)

-- the panel's pixels in column x, and in the columns before it
abbrev pub in_column : Waveform → Screen → ℕ → ℕ → ℕ → Bool
in_column w s x column y = eqb column x && in_panel w s column y

abbrev pub in_columns_before : Waveform → Screen → ℕ → ℕ → ℕ → Bool
in_columns_before w s x column y = ltb column x && in_panel w s column y

-- column x is drawn, and the whole panel
abbrev pub ColumnDrawn : Screen → Waveform → ℕ → List ℕ → ℕ → List ℕ → Type 0
ColumnDrawn s w x m count after = PixelsDrawn s (in_column w s x) (panel_pixel w) m count after

abbrev pub PanelDrawn : Screen → Waveform → List ℕ → ℕ → List ℕ → Type 0
PanelDrawn s w m count after = PixelsDrawn s (in_panel w s) (panel_pixel w) m count after
