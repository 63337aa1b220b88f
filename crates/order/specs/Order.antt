-- Demand 3's words: "Both orders give the same memory exactly if, at each pixel that both cover, the depths differ, or both lie above
-- the depth stored before, or the colours are equal."
use Rattle.std.specs.Prelude.{ℕ, ◌<◌, ◌≡◌, ◌≢◌, ◌⊎◌, true, List}
use Rattle.rules.specs.declared.Screen.{Screen}
use Rattle.rules.specs.declared.Triangle.{Triangle}
use Rattle.ram.specs.Ram.{load_half}
use Rattle.rules.specs.Sizes.{depth_at}
use Rattle.rules.specs.Triangles.{covered, triangle_colour, triangle_depth, drawn}

abbrev pub SameInBothOrders : Triangle → Triangle → Screen → List ℕ → Type 0
SameInBothOrders a b s m = drawn b s (drawn a s m) ≡ drawn a s (drawn b s m)

abbrev pub depth_under : List ℕ → Screen → ℕ → ℕ → ℕ
depth_under m s x y = load_half m (depth_at s x y)

-- a covered pixel is one of the screen: no bound on x and y is missing here
abbrev pub Compatible : Triangle → Triangle → Screen → List ℕ → Type 0
Compatible a b s m =
    (x y : ℕ)
    → covered a s x y ≡ true
    → covered b s x y ≡ true
    → (triangle_depth a x y ≢ triangle_depth b x y)
    ⊎ ((depth_under m s x y < triangle_depth a x y) × (depth_under m s x y < triangle_depth b x y))
    ⊎ (triangle_colour a x y ≡ triangle_colour b x y)
