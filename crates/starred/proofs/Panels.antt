-- The worked panels hold: the definitions are computed, and what they give is what was worked out from 02, case by case.
use mathlib.Core.Path.{◌≡◌, refl}
use mathlib.Core.List.{map}
use Rattle.rules.specs.Folds.{how_many, pixels}
use Rattle.rules.specs.Sizes.{sound, sound_areas}
use Rattle.waveform.specs.Panel.{takes, taken_from, last, row_of, fills, in_panel, good_waveform, panel_number}
use Rattle.starred.specs.WorkedPanels.{filled, worked_panels}

pub panels_hold : map (λ c. c.gives) worked_panels ≡ map (λ c. c.says) worked_panels
unfolding worked_panels filled how_many pixels sound sound_areas takes taken_from last row_of fills in_panel good_waveform panel_number
panels_hold = refl
