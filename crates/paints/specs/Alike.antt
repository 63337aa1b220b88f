-- One machine and another that differs from it only in where its screen stands: other starts, another RAM, the same pixels.
use Rattle.std.specs.Prelude.{ℕ, ◌<◌, ◌≡◌, List}
use Rattle.rules.specs.declared.Screen.{Screen}
use Rattle.rules.specs.Sizes.{width, height}
use Rattle.instructions.specs.declared.State.{State}
use Rattle.instructions.specs.Step.{Machine}
use Rattle.paints.specs.Paint.{pixel_colour, pixel_depth}

-- the starts of a screen's colours and depths
pub record Starts : Type 0 where
  pub colour : ℕ
  pub depth : ℕ

abbrev pub screen_at : Starts → Screen → Screen
screen_at p s = record { colour = p.colour; depth = p.depth; size = s.size }

abbrev pub state_at : Starts → State → State
state_at p s = record {
  regs = s.regs;
  place = s.place;
  negative = s.negative;
  zero = s.zero;
  halt = s.halt;
  shown = s.shown;
  screen = screen_at p s.screen;
  planted = s.planted;
  tree = s.tree;
}

-- each pixel has one colour and one depth in both
abbrev pub SamePixels : Screen → List ℕ → Screen → List ℕ → Type 0
SamePixels s m s' m' =
    (x y : ℕ)
    → x < width s.size
    → y < height s.size
    → (pixel_colour s m x y ≡ pixel_colour s' m' x y) × (pixel_depth s m x y ≡ pixel_depth s' m' x y)

pub record Alike (p : Starts) (m k : Machine) : Type 0 where
  pub state : k.state ≡ state_at p m.state
  pub memory : k.memory ≡ m.memory
  pub pixels : SamePixels m.state.screen m.ram (screen_at p m.state.screen) k.ram
