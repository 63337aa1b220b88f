-- A bar's two triangles, drawn by calls, give its pixels the colour and depth 0, and no other. Which of the two covers a pixel is the
-- law of a split rectangle; that they share none, which the law does not need, is the common-edge theorem.
use Prim.Native.Nat.{ℕ, ◌+◌, ◌*◌, ◌≤◌, ◌<◌}
use mathlib.Core.Path.{◌≡◌, refl, sym, ◌∙◌, ap, ap₂}
use mathlib.Core.Logic.{◌≢◌, inl}
use mathlib.Core.Bool.{Bool, true, false, not, ◌&&◌, ◌||◌}
use mathlib.Core.List.{List, [], ◌∷◌}
use native.Mathlib.Omega.{arith}
use native.Mathlib.Decide.{ℕ_discrete}
use lib.ListN.{length}
use lib.Dec.{leb, ltb, eqb, lt→ltb}
use lib.IntN.{ℤ, pos}
use lib.Signed.{lt_z_yes}
use borrow.Author.Tests.{leb-true, leb-false, le-leb, lt-leb, lt-ltb, le-ltb, eq-eqb, ne_eqb}
use Rattle.ints.proofs.Poly.{var, con, ◌⊖◌}
use Rattle.ints.proofs.Order.{eq_to}
use Rattle.rules.specs.declared.Screen.{Screen}
use Rattle.rules.specs.declared.Vertices.{Vertices}
use Rattle.rules.specs.declared.Drawn.{Drawn}
use Rattle.rules.specs.Folds.{pixels}
use Rattle.rules.specs.Sizes.{width, height, pixel}
use Rattle.rules.specs.Numbers.{screen_number, vertices_in_range}
use Rattle.rules.specs.Triangles.{dx, sample, covered, written, on_screen, covered_pixels}
use Rattle.rules.specs.Calls.{Draws}
use Rattle.rules.proofs.Folds.{pixels_same}
use Rattle.rules.proofs.Pixels.{sound_facts, width-le, height-le}
use Rattle.order.specs.Sides.{first, third, side}
use Rattle.order.specs.Rectangle.{Rectangle, in_rectangle, Split, falling}
use Rattle.order.specs.Pointwise.{Painted}
use Rattle.order.proofs.Numbers.{screen-accepted}
use Rattle.order.proofs.CommonEdge.{same_ends, none_in_common}
use Rattle.order.proofs.Rectangle.{covered_within, covered-beyond, covered-counts}
use Rattle.order.proofs.Client.{draw_paints, draw_length, draw_accepted, draw_covers, draw_writes}
use Rattle.order.proofs.Pointwise.{painted_same, painted_with, painted_then}
use Rattle.waveform.specs.Bars.{Bar, in_colour, upper_half, lower_half, upper, lower, in_bar, BarFits}
use Rattle.waveform.proofs.Flat.{flat-pixel, flat-written}

-- the eighths of a pixel's sample point, against those of its column's or its row's sides

from_place : (a b : ℕ) → leb (8 * a) (8 * b + 4) ≡ leb a b
from_place a b = go (leb a b) refl
  where
    go : (t : Bool) → leb a b ≡ t → leb (8 * a) (8 * b + 4) ≡ t
    go true e = le-leb (8 * a) (8 * b + 4) (omega (arith, leb-true a b e))
    go false e = lt-leb (8 * a) (8 * b + 4) (omega (arith, leb-false a b e))

to_place : (a b : ℕ) → ltb (8 * b + 4) (8 * a + 8) ≡ leb b a
to_place a b = go (leb b a) refl
  where
    go : (t : Bool) → leb b a ≡ t → ltb (8 * b + 4) (8 * a + 8) ≡ t
    go true e = lt-ltb (8 * b + 4) (8 * a + 8) (omega (arith, leb-true b a e))
    go false e = le-ltb (8 * b + 4) (8 * a + 8) (omega (arith, leb-false b a e))

same_place : (a b : ℕ) → leb a b && leb b a ≡ eqb b a
same_place a b = go (ℕ_discrete b a) (leb a b) (leb b a) refl refl
  where
    go : Dec (b ≡ a) → (t u : Bool) → leb a b ≡ t → leb b a ≡ u → t && u ≡ eqb b a
    go (yes e) true true p q = sym (eq-eqb b a e)
    go (yes e) true false p q = absurd (omega (arith, leb-false b a q))
    go (yes e) false u p q = absurd (omega (arith, leb-false a b p))
    go (no e) true true p q = absurd (e (omega (arith, leb-true a b p, leb-true b a q)))
    go (no e) true false p q = sym (ne_eqb b a e)
    go (no e) false u p q = sym (ne_eqb b a e)

module _ (b : Bar) (ordered : b.top ≤ b.bottom) where
  abbrev rectangle : Rectangle
  rectangle = record {
    left = pos (8 * b.x);
    top = pos (8 * b.top);
    right = pos (8 * b.x + 8);
    bottom = pos (8 * b.bottom + 8);
    wide = lt_z_yes (lt→ltb (8 * b.x) (8 * b.x + 8) (omega arith));
    high = lt_z_yes (lt→ltb (8 * b.top) (8 * b.bottom + 8) (omega arith));
  }

  rectangle_pixels : (x y : ℕ) → in_rectangle rectangle (sample x y) ≡ in_bar b x y
  unfolding sample
  rectangle_pixels x y =
      rw (from_place b.x x, to_place b.x x, from_place b.top y, to_place b.bottom y)
      (regroup (leb b.x x) (leb x b.x) (leb b.top y) (leb y b.bottom)
      ∙ ap (λ t. t && (leb b.top y && leb y b.bottom)) (same_place b.x x))
    where
      regroup : (t u v w : Bool) → t && u && v && w ≡ t && u && (v && w)
      regroup true true v w = refl
      regroup true false v w = refl
      regroup false u v w = refl

  split : Split rectangle (upper b) (lower b)
  unfolding in_colour upper_half lower_half
  split =
      falling
      (record { from = first; one = refl; two = refl; three = refl })
      (record { from = first; one = refl; two = refl; three = refl })

  covered_either : (s : Screen) (x y : ℕ) → on_screen s x y ≡ true → covered (upper b) s x y || covered (lower b) s x y ≡ in_bar b x y
  covered_either s x y o = go (in_rectangle rectangle (sample x y)) refl ∙ rectangle_pixels x y
    where
      one : (t : Bool) → t || not t ≡ true
      one true = refl
      one false = refl

      go : (t : Bool) → in_rectangle rectangle (sample x y) ≡ t
          → covered (upper b) s x y || covered (lower b) s x y ≡ in_rectangle rectangle (sample x y)
      go true e =
          ap (λ t. covered (upper b) s x y || t) (covered_within rectangle split s x y o e)
          ∙ one (covered (upper b) s x y)
          ∙ sym e
      go false e = let n = covered-beyond rectangle split s x y e in ap₂ ◌||◌ n.0 n.1 ∙ sym e

  covered-sum : (s : Screen) → covered_pixels (upper b) s + covered_pixels (lower b) s ≡ pixels (in_bar b) (width s.size) (height s.size)
  covered-sum s =
      covered-counts rectangle split s
      ∙ pixels_same (λ x y. in_rectangle rectangle (sample x y)) (width s.size) (in_bar b) (height s.size)
      (λ x y h v. rectangle_pixels x y)

-- the two run along the diagonal in opposite directions, so they share no pixel, on any screen
pub none_shared : (b : Bar) (s : Screen) (x y : ℕ) → covered (upper b) s x y ≡ true → covered (lower b) s x y ≡ true → ⊥
unfolding in_colour upper_half lower_half
none_shared b = none_in_common (upper b) (lower b) third third (same_ends (side (upper b) third) (inl long))
  where
    long : dx (side (upper b) third) ≢ pos 0
    long e =
        let ρ : List ℤ = pos (8 * b.x) ∷ pos (8 * b.x + 8) ∷ [] in
        omega (arith, eq_to ρ (var 0 ⊖ var 1) (con (pos 0)) e)

module _ {n : ℕ} {s : Screen} {b : Bar} (f : BarFits n s b) where
  pub bar-small : (b.x < 640) × (b.top < 480) × (b.bottom < 480)
  bar-small =
      let g = sound_facts ((screen-accepted n s).0 f.screen).1 in (
        omega (arith, width-le g, f.across),
        omega (arith, height-le g, f.down, f.ordered),
        omega (arith, height-le g, f.down),
      )

  -- the four numbers of its corners
  record Corners : Type 0 where
    left : leb (8 * b.x) 8191 ≡ true
    top : leb (8 * b.top) 8191 ≡ true
    right : leb (8 * b.x + 8) 8191 ≡ true
    bottom : leb (8 * b.bottom + 8) 8191 ≡ true

  corners : Corners
  corners =
      let (x, top, bottom) = bar-small in
      record {
        left = le-leb (8 * b.x) 8191 (omega arith);
        top = le-leb (8 * b.top) 8191 (omega arith);
        right = le-leb (8 * b.x + 8) 8191 (omega arith);
        bottom = le-leb (8 * b.bottom + 8) 8191 (omega arith);
      }

  pub upper_in_range : vertices_in_range (upper b).vertices ≡ true
  unfolding vertices_in_range in_colour upper_half
  upper_in_range = rw (corners.left, corners.top, corners.right, corners.bottom)

  pub lower_in_range : vertices_in_range (lower b).vertices ≡ true
  unfolding vertices_in_range in_colour lower_half
  lower_in_range = rw (corners.left, corners.top, corners.right, corners.bottom)

-- a triangle in one colour paints what it covers
flat-paints : {m after : List ℕ} {s : Screen} {r : Drawn} (colour : ℕ) (v : Vertices)
    → colour < 65536
    → Draws m s (in_colour colour v) r after
    → r.number ≡ 0
    → Painted s (covered (in_colour colour v) s) (λ x y. pixel colour 0) m after
flat-paints {m} {s = s} colour v h d e =
    painted_with (λ x y. flat-pixel x y colour v h)
    (painted_same (λ x y p q. flat-written x y colour v s m) (draw_paints d e))

-- and writes as many
flat-writes : {m after : List ℕ} {s : Screen} {r : Drawn} (colour : ℕ) (v : Vertices)
    → Draws m s (in_colour colour v) r after
    → r.number ≡ 0
    → r.written ≡ covered_pixels (in_colour colour v) s
flat-writes {m} {s = s} colour v d e =
    let t = in_colour colour v in
    draw_writes d e
    ∙ pixels_same (written t s m) (width s.size) (covered t s) (height s.size) (λ x y h k. flat-written x y colour v s m)

module _
    {m k after : List ℕ}
    {s : Screen}
    {b : Bar}
    {r r' : Drawn}
    (f : BarFits (length m) s b)
    (d : Draws m s (upper b) r k)
    (d' : Draws k s (lower b) r' after)
  where
    one-drawn : r.number ≡ 0
    one-drawn = draw_accepted d f.screen (upper_in_range f)

    other-drawn : r'.number ≡ 0
    other-drawn = draw_accepted d' (ap (λ i. screen_number i s) (draw_length d) ∙ f.screen) (lower_in_range f)

    pub bar-paints : Painted s (in_bar b) (λ x y. pixel b.colour 0) m after
    bar-paints =
        painted_same
        (λ x y h v. covered_either b f.ordered s x y (rw (lt-ltb x (width s.size) h, lt-ltb y (height s.size) v)))
        (painted_then
        (flat-paints b.colour (upper_half b.x b.top b.bottom) f.half d one-drawn)
        (flat-paints b.colour (lower_half b.x b.top b.bottom) f.half d' other-drawn))

    pub bar-counts : r.covered + r'.covered ≡ pixels (in_bar b) (width s.size) (height s.size)
    bar-counts = ap₂ ◌+◌ (draw_covers d one-drawn) (draw_covers d' other-drawn) ∙ covered-sum b f.ordered s

    -- what they write is what they cover
    pub bar-writes : r.written + r'.written ≡ pixels (in_bar b) (width s.size) (height s.size)
    bar-writes =
        ap₂ ◌+◌
        (flat-writes b.colour (upper_half b.x b.top b.bottom) d one-drawn)
        (flat-writes b.colour (lower_half b.x b.top b.bottom) d' other-drawn)
        ∙ covered-sum b f.ordered s
