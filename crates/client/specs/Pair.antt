-- A screen cleared and two triangles drawn on it: which number is answered, and what every pixel of the screen holds afterwards.
use Rattle.std.specs.Prelude.{ℕ, ◌≡◌, ◌≢◌, true, List, [], ◌∷◌, length}
use Rattle.rules.specs.declared.Screen.{Screen}
use Rattle.rules.specs.declared.Triangle.{Triangle}
use Rattle.rules.specs.Sizes.{Pixel}
use Rattle.rules.specs.Numbers.{screen_number, vertices_in_range, triangle_number}
use Rattle.rules.specs.Calls.{accepted}
use Rattle.order.specs.Pointwise.{Painted}
use Rattle.order.specs.Lists.{after_list}

-- what is asked for: what every pixel is cleared to, and two triangles drawn on it, in order
pub record Scene : Type 0 where
  pub ground : Pixel
  pub first : Triangle
  pub second : Triangle

abbrev pub scene : Pixel → Triangle → Triangle → Scene
scene ground first second = record { ground = ground; first = first; second = second }

-- the first number that is not 0: the clear's, the first triangle's, the second's
unfoldable pub pair_number : ℕ → Screen → Triangle → Triangle → ℕ
pair_number ram_length s a b =
    accepted (screen_number ram_length s)
    (accepted (triangle_number ram_length s a) (triangle_number ram_length s b) (triangle_number ram_length s a))
    (screen_number ram_length s)

-- the ground, and what the first and then the second triangle make of it
abbrev pub pair_pixel : Screen → Scene → ℕ → ℕ → Pixel
pair_pixel s p x y = after_list (p.first ∷ p.second ∷ []) s x y p.ground

-- every pixel of the screen holds that, and every other byte is as it was
abbrev pub PairPainted : Screen → Scene → List ℕ → List ℕ → Type 0
PairPainted s p m after = Painted s (λ x y. true) (pair_pixel s p) m after

-- none of the three calls refuses
pub record CanPair (ram_length : ℕ) (s : Screen) (a b : Triangle) : Type 0 where
  pub screen : screen_number ram_length s ≡ 0
  pub first : vertices_in_range a.vertices ≡ true
  pub second : vertices_in_range b.vertices ≡ true

pub record Pairs (m : List ℕ) (s : Screen) (p : Scene) (number : ℕ) (after : List ℕ) : Type 0 where
  pub answers : number ≡ pair_number (length m) s p.first p.second
  pub keeps : number ≢ 0 → after ≡ m
  pub paints : number ≡ 0 → PairPainted s p m after
