-- Offset d + n puts in column x what offset d puts in column x + 1: the sound moved by one column's samples moves the picture by one
-- column, and by nothing else. First of the panel's pixels, for every n and d; then of two accepted panels, pixel by pixel.
use Prim.Native.Nat.{ℕ, ◌+◌, ◌<◌}
use mathlib.Core.Path.{◌≡◌, refl, sym, ◌∙◌, ap, ap₂}
use mathlib.Core.Bool.{Bool, true, false}
use mathlib.Core.List.{List}
use native.Mathlib.Omega.{arith}
use lib.IntN.{ℤ, ◌+ℤ◌}
use Rattle.rules.specs.declared.Screen.{Screen}
use Rattle.rules.specs.Folds.{choose}
use Rattle.ram.specs.Ram.{load_half}
use Rattle.rules.specs.Sizes.{width, height, colour_at, depth_at, pixel}
use Rattle.order.specs.Pointwise.{Painted}
use Rattle.order.specs.Lists.{pixel_at}
use Rattle.order.proofs.Pointwise.{painted-colour, painted-depth}
use Rattle.waveform.specs.declared.Panelled.{Panelled}
use Rattle.waveform.specs.Panel.{Waveform, waveform, fills, in_panel, panel_pixel, Panels}
use Rattle.waveform.proofs.Columns.{taken_later}

-- what a panel leaves of a pixel
pixel-after : (w : Waveform) {s : Screen} {m after : List ℕ} → Painted s (in_panel w s) (panel_pixel w) m after → (x y : ℕ)
    → x < width s.size
    → y < height s.size
    → pixel_at after s x y ≡ choose (in_panel w s x y) (pixel w.colour 0) (pixel_at m s x y)
pixel-after w {s} {m} p x y h v = (λ i. pixel (painted-colour p x y h v i) (painted-depth p x y h v i)) ∙ apart (in_panel w s x y)
  where
    apart : (b : Bool)
        → pixel (choose b w.colour (load_half m (colour_at s x y))) (choose b 0 (load_half m (depth_at s x y)))
        ≡ choose b (pixel w.colour 0) (pixel_at m s x y)
    apart true = refl
    apart false = refl

module _ (samples : List ℤ) (n d : ℤ) (colour : ℕ) (s : Screen) where
  abbrev later : Waveform
  later = waveform samples n (d +ℤ n) colour

  abbrev sooner : Waveform
  sooner = waveform samples n d colour

  pub one-column : (x y : ℕ) → in_panel later s x y ≡ in_panel sooner s (x + 1) y
  unfolding in_panel
  one-column x y = ap (λ l. fills (height s.size) l y) (taken_later n x d 0 samples)

  -- where the ground was the same, one column further, so is what is left
  pub picture_moves : {m k after other : List ℕ} {a b : Panelled}
      → Panels m s later a after
      → Panels k s sooner b other
      → a.number ≡ 0
      → b.number ≡ 0
      → (x y : ℕ)
      → x + 1 < width s.size
      → y < height s.size
      → pixel_at m s x y ≡ pixel_at k s (x + 1) y
      → pixel_at after s x y ≡ pixel_at other s (x + 1) y
  picture_moves {m} {k} p q e f x y h v ground =
      pixel-after later (p.paints (sym p.answers ∙ e)) x y (omega arith) v
      ∙ ap₂ (λ b g. choose b (pixel colour 0) g) (one-column x y) ground
      ∙ sym (pixel-after sooner (q.paints (sym q.answers ∙ f)) (x + 1) y h v)
