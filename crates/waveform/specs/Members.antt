-- A number that stands in a list, and a sample that a column takes.
use Rattle.std.specs.Prelude.{ℕ, ◌<◌, ◌≡◌, true, List, ◌∷◌, length, get_or, ℤ, pos}
use Rattle.waveform.specs.Panel.{Waveform, takes}

pub data Has (u : ℤ) : List ℤ → Type 0 where
  here : {l : List ℤ} → Has u (u ∷ l)
  there : {v : ℤ} {l : List ℤ} → Has u l → Has u (v ∷ l)

-- u is a sample that exists and that column x takes
pub record Sample (w : Waveform) (x : ℕ) (u : ℤ) : Type 0 where
  pub at : ℕ
  pub exists : at < length w.samples
  pub taken : takes w.n w.d x at ≡ true
  pub is : get_or w.samples at (pos 0) ≡ u
