-- A memory after painting, colours and depths apart: told by each pixel's colour and depth, wherever these stand.
use Rattle.std.specs.Prelude.{ℕ, ◌<◌, ◌≡◌, Bool, true, false, List, length, get_or}
use Rattle.rules.specs.declared.Screen.{Screen}
use Rattle.ram.specs.Ram.{load_half}
use Rattle.rules.specs.Sizes.{width, height, colour_at, depth_at}
use Rattle.order.specs.Pointwise.{Holds, Stays, Elsewhere}

-- the colour and the depth of pixel (x, y)
abbrev pub pixel_colour : Screen → List ℕ → ℕ → ℕ → ℕ
pixel_colour s m x y = load_half m (colour_at s x y)

abbrev pub pixel_depth : Screen → List ℕ → ℕ → ℕ → ℕ
pixel_depth s m x y = load_half m (depth_at s x y)

-- a value for each of those pixels that the test picks
pub record Paint : Type 0 where
  pub picks : ℕ → ℕ → Bool
  pub value : ℕ → ℕ → ℕ

-- one value for all pixels
abbrev pub everywhere : ℕ → Paint
everywhere v = record { picks = λ x y. true; value = λ x y. v }

-- of the half-words `at`, one for each pixel: those that the paint picks hold its value, and the others stay
pub record Laid (s : Screen) (at : ℕ → ℕ → ℕ) (p : Paint) (m after : List ℕ) : Type 0 where
  pub holds : (x y : ℕ) → x < width s.size → y < height s.size → p.picks x y ≡ true → Holds after (at x y) (p.value x y)
  pub stays : (x y : ℕ) → x < width s.size → y < height s.size → p.picks x y ≡ false → Stays m after (at x y)

-- `after` is m with one paint on the colours and another on the depths, and every byte of no pixel as it was
pub record PaintedWith (s : Screen) (colour depth : Paint) (m after : List ℕ) : Type 0 where
  pub same_length : length after ≡ length m
  pub colours : Laid s (colour_at s) colour m after
  pub depths : Laid s (depth_at s) depth m after
  pub elsewhere : (b : ℕ) → Elsewhere s b → get_or after b 0 ≡ get_or m b 0
