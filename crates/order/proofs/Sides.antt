-- A covered pixel is inside each side, and inside is a test of the edge value and the edge's two steps alone.
use Prim.Native.Nat.{ℕ}
use mathlib.Core.Path.{◌≡◌, refl, sym, ◌∙◌, ap}
use mathlib.Core.Bool.{Bool, true, false, ◌&&◌, ◌||◌}
use lib.IntN.{ℤ}
use Rattle.rules.specs.declared.Screen.{Screen}
use Rattle.rules.specs.declared.Triangle.{Triangle}
use Rattle.rules.specs.Triangles.{Point, Edge, dx, dy, edge_value, positive, is_zero, negative, keeps_zero, inside, inside_all}
use Rattle.rules.specs.Triangles.{on_screen, sample, covered}
use Rattle.rules.proofs.Pixels.{and_l, and_r}
use Rattle.order.specs.Sides.{Which, first, second, third, side, inside_others}

abbrev pub within : ℤ → ℤ → ℤ → Bool
within value across down = positive value || is_zero value && (negative down || is_zero down && positive across)

pub inside_is : (e : Edge) (p : Point) → inside e p ≡ within (edge_value e p) (dx e) (dy e)
unfolding inside keeps_zero
inside_is e p = refl

-- inside all three, told from any side on

round : (a b c : Bool) → a && b && c ≡ b && (c && a)
round true true true = refl
round true true false = refl
round true false c = refl
round false true true = refl
round false true false = refl
round false false c = refl

grouped : (a b c : Bool) → a && b && c ≡ a && (b && c)
grouped true b c = refl
grouped false b c = refl

pub inside-from : (t : Triangle) (i : Which) (p : Point) → inside_all t.vertices p ≡ inside (side t i) p && inside_others t i p
unfolding inside_all
inside-from t first p = grouped (inside (side t first) p) (inside (side t second) p) (inside (side t third) p)
inside-from t second p = round (inside (side t first) p) (inside (side t second) p) (inside (side t third) p)
inside-from t third p =
    round (inside (side t first) p) (inside (side t second) p) (inside (side t third) p)
    ∙ sym (grouped (inside (side t second) p) (inside (side t third) p) (inside (side t first) p))
    ∙ round (inside (side t second) p) (inside (side t third) p) (inside (side t first) p)

module _ (t : Triangle) (s : Screen) (x y : ℕ) where
  pub inside-covered : covered t s x y ≡ true → inside_all t.vertices (sample x y) ≡ true
  unfolding covered
  inside-covered e = and_r (on_screen s x y) (inside_all t.vertices (sample x y)) e

  pub covered-screen : on_screen s x y ≡ true → covered t s x y ≡ inside_all t.vertices (sample x y)
  unfolding covered
  covered-screen o = rw o

  pub covered_none : inside_all t.vertices (sample x y) ≡ false → covered t s x y ≡ false
  unfolding covered
  covered_none e = ap (λ b. on_screen s x y && b) e ∙ never (on_screen s x y)
    where
      never : (b : Bool) → b && false ≡ false
      never true = refl
      never false = refl

  pub inside-side : (i : Which) → covered t s x y ≡ true → inside (side t i) (sample x y) ≡ true
  inside-side i e =
      and_l (inside (side t i) (sample x y)) (inside_others t i (sample x y))
      (sym (inside-from t i (sample x y)) ∙ inside-covered e)
