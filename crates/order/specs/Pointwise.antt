-- A memory after painting, told pixel by pixel and byte by byte, with no order of work in it.
use Rattle.std.specs.Prelude.{ℕ, ◌+◌, ◌/◌, ◌%◌, ◌<◌, ◌≡◌, ◌≢◌, Bool, true, false, List, length, get_or}
use Rattle.rules.specs.declared.Screen.{Screen}
use Rattle.rules.specs.Sizes.{width, height, colour_at, depth_at, Pixel}

-- the two bytes at address a
pub record Reads (m : List ℕ) (a high low : ℕ) : Type 0 where
  pub first : get_or m a 0 ≡ high
  pub second : get_or m (a + 1) 0 ≡ low

-- the half-word v stands at address a
abbrev pub Holds : List ℕ → ℕ → ℕ → Type 0
Holds after a v = Reads after a (v / 256) (v % 256)

-- the two bytes at address a are as they were in m
abbrev pub Stays : List ℕ → List ℕ → ℕ → Type 0
Stays m after a = Reads after a (get_or m a 0) (get_or m (a + 1) 0)

-- b is no byte of the colour or depth of a pixel of the screen
pub record Elsewhere (s : Screen) (b : ℕ) : Type 0 where
  pub no_colour : (x y : ℕ) → x < width s.size → y < height s.size → (b ≢ colour_at s x y) × (b ≢ colour_at s x y + 1)
  pub no_depth : (x y : ℕ) → x < width s.size → y < height s.size → (b ≢ depth_at s x y) × (b ≢ depth_at s x y + 1)

-- `after` is m, where those pixels that the test picks hold what `new` says
pub record Painted (s : Screen) (picked : ℕ → ℕ → Bool) (new : ℕ → ℕ → Pixel) (m after : List ℕ) : Type 0 where
  pub same_length : length after ≡ length m
  pub painted : (x y : ℕ)
      → x < width s.size
      → y < height s.size
      → picked x y ≡ true
      → Holds after (colour_at s x y) (new x y).colour × Holds after (depth_at s x y) (new x y).depth
  pub stays : (x y : ℕ)
      → x < width s.size
      → y < height s.size
      → picked x y ≡ false
      → Stays m after (colour_at s x y) × Stays m after (depth_at s x y)
  pub elsewhere : (b : ℕ) → Elsewhere s b → get_or after b 0 ≡ get_or m b 0
