-- Panels worked out by hand from 02, M-104, on the screen 16 by 4, where the rows are 16,384 values high: row 0 has 16,384 and above, row 1
-- 0 to 16,383, row 2 -16,384 to -1, row 3 what is below. Then both sides of each part of number 10, and what goes before it.
use Rattle.std.specs.Prelude.{ℕ, zero, suc, ◌+◌, ◌*◌, ◌^◌, List, [], ◌∷◌, ℤ, pos}
use Rattle.rules.specs.Folds.{bit}
use Rattle.rules.specs.Calls.{accepted}
use Rattle.waveform.specs.Panel.{Waveform, waveform, in_panel, panel_number, number_of, panel_pixels}
use Rattle.starred.specs.Drawing.{screen16by4}
use Rattle.starred.specs.Machine.{minus}

pub record PanelCase : Type 0 where
  pub says : List ℕ
  pub gives : List ℕ

abbrev pub case : List ℕ → List ℕ → PanelCase
case says gives = record { says = says; gives = gives }

-- the filled columns of row y among the first k: the sum of 2^x over them
unfoldable pub filled : Waveform → ℕ → ℕ → ℕ
filled w y zero = 0
filled w y (suc x) = filled w y x + bit (in_panel w screen16by4 x y) * 2 ^ x

-- number, count, and the four rows
abbrev pub drawn_by : List ℤ → ℕ → ℤ → List ℕ
drawn_by samples n d =
    let w = waveform samples (pos n) d 7 in
    let number = number_of 256 screen16by4 w in
    number ∷ accepted number (panel_pixels w screen16by4) 0 ∷ filled w 0 16 ∷ filled w 1 16 ∷ filled w 2 16 ∷ filled w 3 16 ∷ []

abbrev pub number : ℕ → ℕ → ℤ → ℤ → List ℕ
number ram_length count n d = panel_number ram_length screen16by4 count n d ∷ []

-- five samples, in the rows 1, 0, 3, 1 and 1
abbrev pub five : List ℤ
five = pos 0 ∷ pos 20000 ∷ minus 20000 ∷ pos 5 ∷ pos 6 ∷ []

unfoldable pub worked_panels : List PanelCase
worked_panels =
    -- two a column: column 0 has rows 0 and 1, column 1 rows 1 to 3, column 2 row 1
    case (0 ∷ 6 ∷ 1 ∷ 7 ∷ 2 ∷ 2 ∷ []) (drawn_by five 2 (pos 0))
    -- two samples later: one column to the left
    ∷ case (0 ∷ 4 ∷ 0 ∷ 3 ∷ 1 ∷ 1 ∷ []) (drawn_by five 2 (pos 2))
    -- one sample sooner: column 0 has the first alone, column 1 the next two
    ∷ case (0 ∷ 6 ∷ 2 ∷ 7 ∷ 2 ∷ 2 ∷ []) (drawn_by five 2 (minus 1))
    -- column 15 has the first two
    ∷ case (0 ∷ 2 ∷ 32768 ∷ 32768 ∷ 0 ∷ 0 ∷ []) (drawn_by five 2 (minus 30))
    -- beyond either end, and no samples at all
    ∷ case (0 ∷ 0 ∷ 0 ∷ 0 ∷ 0 ∷ 0 ∷ []) (drawn_by five 2 (minus 32))
    ∷ case (0 ∷ 1 ∷ 0 ∷ 1 ∷ 0 ∷ 0 ∷ []) (drawn_by five 2 (pos 4))
    ∷ case (0 ∷ 0 ∷ 0 ∷ 0 ∷ 0 ∷ 0 ∷ []) (drawn_by five 2 (pos 5))
    ∷ case (0 ∷ 0 ∷ 0 ∷ 0 ∷ 0 ∷ 0 ∷ []) (drawn_by [] 2 (pos 0))
    -- both ends of the scale, and both sides of a row's
    ∷ case (0 ∷ 2 ∷ 1 ∷ 0 ∷ 0 ∷ 2 ∷ []) (drawn_by (pos 32767 ∷ minus 32768 ∷ []) 1 (pos 0))
    ∷ case (0 ∷ 2 ∷ 1 ∷ 2 ∷ 0 ∷ 0 ∷ []) (drawn_by (pos 16384 ∷ pos 16383 ∷ []) 1 (pos 0))
    ∷ case (0 ∷ 2 ∷ 0 ∷ 1 ∷ 2 ∷ 0 ∷ []) (drawn_by (pos 0 ∷ minus 1 ∷ []) 1 (pos 0))
    -- number 10
    ∷ case (0 ∷ []) (number 256 40960 (pos 64) (pos 2047))
    ∷ case (0 ∷ []) (number 256 0 (pos 1) (minus 2048))
    ∷ case (10 ∷ []) (number 256 40961 (pos 64) (pos 2047))
    ∷ case (10 ∷ []) (number 256 0 (pos 0) (pos 0))
    ∷ case (10 ∷ []) (number 256 0 (pos 65) (pos 0))
    ∷ case (10 ∷ []) (number 256 0 (minus 1) (pos 0))
    ∷ case (10 ∷ []) (number 256 0 (pos 1) (pos 2048))
    ∷ case (10 ∷ []) (number 256 0 (pos 1) (minus 2049))
    -- 5 goes before it, and 3 before both
    ∷ case (5 ∷ []) (number 255 40961 (pos 0) (pos 2048))
    ∷ case (3 ∷ []) (number 4194305 40961 (pos 0) (pos 2048))
    ∷ []
