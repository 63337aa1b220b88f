-- docs/RULES.md, 6.6 (02, M-104): the waveform panel: which samples a column takes, which rows it fills, the number, and what the call
-- leaves.
use Rattle.std.specs.Prelude.{ℕ, suc, ◌*◌, ◌/◌, ◌≡◌, ◌≢◌, Bool, false, not, ◌&&◌, List, [], ◌∷◌, length, leb, ℤ, pos, negsuc, nat_abs, ◌+ℤ◌, ◌-ℤ◌, ◌*ℤ◌}
use Rattle.std.specs.Int.Signed.{le_z}
use Rattle.rules.specs.declared.Screen.{Screen}
use Rattle.rules.specs.Folds.{choose, pixels}
use Rattle.rules.specs.Sizes.{width, height, Pixel, pixel}
use Rattle.rules.specs.Numbers.{after_screen}
use Rattle.rules.specs.Calls.{accepted}
use Rattle.order.specs.Pointwise.{Painted}
use Rattle.waveform.specs.declared.Panelled.{Panelled}

-- "Input: .. samples, n samples per column .., an offset d .., one colour"
pub record Waveform : Type 0 where
  pub samples : List ℤ
  pub n : ℤ
  pub d : ℤ
  pub colour : ℕ

abbrev pub waveform : List ℤ → ℤ → ℤ → ℕ → Waveform
waveform samples n d colour = record { samples = samples; n = n; d = d; colour = colour }

-- "Column x takes samples x·n + d to x·n + d + n - 1": whether sample i is one of them
abbrev pub first_of : ℤ → ℤ → ℕ → ℤ
first_of n d x = pos x *ℤ n +ℤ d

unfoldable pub takes : ℤ → ℤ → ℕ → ℕ → Bool
takes n d x i = le_z (first_of n d x) (pos i) && le_z (pos i) (first_of n d x +ℤ n -ℤ pos 1)

-- ".. leaving out those that do not exist": those of the list that it takes, where the list begins with sample i
unfoldable pub taken_from : ℤ → ℤ → ℕ → ℕ → List ℤ → List ℤ
taken_from n d x i [] = []
taken_from n d x i (v ∷ rest) = choose (takes n d x i) (v ∷ taken_from n d x (suc i) rest) (taken_from n d x (suc i) rest)

abbrev pub column_samples : Waveform → ℕ → List ℤ
column_samples w x = taken_from w.n w.d x 0 w.samples

-- which of v and the rest comes last in an order, where `before` tests of two whether the first is not after the second: by ≤ "the largest
-- sample", by ≥ "the smallest"
unfoldable pub last : (ℤ → ℤ → Bool) → ℤ → List ℤ → ℤ
last before v [] = v
last before v (u ∷ rest) = last before (choose (before v u) u v) rest

abbrev pub largest : ℤ → List ℤ → ℤ
largest = last le_z

abbrev pub smallest : ℤ → List ℤ → ℤ
smallest = last (λ v u. le_z u v)

-- "v stands at row floor((32767 - v) × height / 65536)": no sample of 16 bits is above 32767 (proofs/Rows, `row_rounds_down`)
unfoldable pub row_of : ℕ → ℤ → ℕ
row_of h v = nat_abs (pos 32767 -ℤ v) * h / 65536

-- "A column with none draws nothing. Otherwise it fills the rows from that of the largest sample to that of the smallest"
unfoldable pub fills : ℕ → List ℤ → ℕ → Bool
fills h [] y = false
fills h (v ∷ rest) y = leb (row_of h (largest v rest)) y && leb y (row_of h (smallest v rest))

-- whether pixel (x, y) is one of the panel's
unfoldable pub in_panel : Waveform → Screen → ℕ → ℕ → Bool
in_panel w s x y = fills (height s.size) (column_samples w x) y

-- ".. with depth 0 .. get the colour"
abbrev pub panel_pixel : Waveform → ℕ → ℕ → Pixel
panel_pixel w x y = pixel w.colour 0

-- "0 to 40,960 .. samples, n .. (1 to 64), an offset d (-2,048 to 2,047 samples)"
abbrev pub good_count : ℕ → Bool
good_count count = leb count 40960

abbrev pub good_per_column : ℤ → Bool
good_per_column n = le_z (pos 1) n && le_z n (pos 64)

abbrev pub good_offset : ℤ → Bool
good_offset d = le_z (negsuc 2047) d && le_z d (pos 2047)

unfoldable pub good_waveform : ℕ → ℤ → ℤ → Bool
good_waveform count n d = good_count count && good_per_column n && good_offset d

-- "New number 10 for a bad sample count, n or d, after 3 and 5"
unfoldable pub panel_number : ℕ → Screen → ℕ → ℤ → ℤ → ℕ
panel_number ram_length s count n d = after_screen ram_length s (choose (not (good_waveform count n d)) 10 0)

abbrev pub number_of : ℕ → Screen → Waveform → ℕ
number_of ram_length s w = panel_number ram_length s (length w.samples) w.n w.d

-- the pixels of the panel
abbrev pub panel_pixels : Waveform → Screen → ℕ
panel_pixels w s = pixels (in_panel w s) (width s.size) (height s.size)

-- drawing a panel from memory m: it answers `answer` and leaves the memory `after`. "exactly those pixels get the colour"; "a refusal draws
-- nothing"
pub record Panels (m : List ℕ) (s : Screen) (w : Waveform) (answer : Panelled) (after : List ℕ) : Type 0 where
  pub answers : answer.number ≡ number_of (length m) s w
  pub counts : answer.pixels ≡ accepted (number_of (length m) s w) (panel_pixels w s) 0
  pub paints : number_of (length m) s w ≡ 0 → Painted s (in_panel w s) (panel_pixel w) m after
  pub keeps : number_of (length m) s w ≢ 0 → after ≡ m
