-- Of the two triangles of a split rectangle exactly one covers a pixel whose sample point lies in the rectangle, and neither any other.
-- The four sides are tests of one coordinate each. The diagonal's value is the difference of the values of two sides, so a point inside
-- one triangle is inside the two sides of the other; and a point is inside exactly one of the diagonal and the diagonal turned.
use Prim.Native.Nat.{ℕ, ◌+◌}
use mathlib.Core.Path.{◌≡◌, refl, sym, ◌∙◌, ap}
use mathlib.Core.Logic.{◌≢◌, inl, inr, ◌↔◌}
use mathlib.Core.Bool.{Bool, true, false, not, ◌&&◌}
use mathlib.Core.List.{List, [], ◌∷◌}
use native.Mathlib.Omega.{arith}
use lib.IntN.{ℤ, pos, ◌-ℤ◌, ◌*ℤ◌}
use lib.Signed.{le_z, lt_z, ◌≤ℤ◌, ◌<ℤ◌}
use borrow.Author.Tests.{lt-ltb}
use Rattle.ints.proofs.Poly.{Exp, var, con, ◌⊖◌, ◌⊗◌, solve}
use Rattle.ints.proofs.Order.{le_to, lt_to, le_of, lt_of, eq_to, le_z_true, lt_z_true}
use Rattle.rules.specs.declared.Screen.{Screen}
use Rattle.rules.specs.declared.Triangle.{Triangle}
use Rattle.rules.specs.Sizes.{width, height}
use Rattle.rules.specs.Folds.{bit, pixels}
use Rattle.rules.specs.Triangles.{Point, Edge, edge_value, inside, inside_all, on_screen, sample, covered, covered_pixels}
use Rattle.rules.proofs.Choices.{and_whole}
use Rattle.rules.proofs.Pixels.{and_l, and_r}
use Rattle.rules.proofs.Closing.{value-le}
use Rattle.order.specs.Sides.{side, next, inside_others, turned}
use Rattle.order.specs.Rectangle.{edge_between, Corners, Rectangle, in_rectangle, Split, falling, rising}
use Rattle.order.specs.Rectangle.{left_top, right_top, right_bottom, left_bottom}
use Rattle.order.proofs.Sides.{inside-from, covered-screen, covered_none}
use Rattle.order.proofs.Turned.{exactly_one_side}
use Rattle.order.proofs.Signs.{kept_side, lost_side, le-product, lt-product, product_le, product_lt}
use Rattle.order.proofs.Counts.{pixels-sum}

-- three corners

module _ {t : Triangle} {p q r : Point} (c : Corners t p q r) (z : Point) where
  corners-inside : inside_all t.vertices z ≡ inside (edge_between p q) z && (inside (edge_between q r) z && inside (edge_between r p) z)
  corners-inside =
      inside-from t c.from z
      ∙ ap (λ e. inside e z && inside_others t c.from z) c.one
      ∙ ap (λ e. inside (edge_between p q) z && (inside e z && inside (side t (next (next c.from))) z)) c.two
      ∙ ap (λ e. inside (edge_between p q) z && (inside (edge_between q r) z && inside e z)) c.three

  inside-corners : inside_all t.vertices z ≡ true
      → (inside (edge_between p q) z ≡ true) × (inside (edge_between q r) z ≡ true) × (inside (edge_between r p) z ≡ true)
  inside-corners h =
      let a = sym corners-inside ∙ h in
      let b = and_r (inside (edge_between p q) z) (inside (edge_between q r) z && inside (edge_between r p) z) a in (
        and_l (inside (edge_between p q) z) (inside (edge_between q r) z && inside (edge_between r p) z) a,
        and_l (inside (edge_between q r) z) (inside (edge_between r p) z) b,
        and_r (inside (edge_between q r) z) (inside (edge_between r p) z) b,
      )

-- the rectangle's sides and diagonals

level : (z : ℤ) → z -ℤ z ≡ pos 0
level z = solve (z ∷ []) (var 0 ⊖ var 0) (con (pos 0)) tt

not_level : {y z : ℤ} → y <ℤ z → y -ℤ z ≢ pos 0
not_level {y} {z} h e =
    omega (arith, lt_to (y ∷ z ∷ []) (var 0) (var 1) h, eq_to (y ∷ z ∷ []) (var 0 ⊖ var 1) (con (pos 0)) e)

module _ (a : Rectangle) (p : Point) where
  abbrev ρ : List ℤ
  ρ = a.left ∷ a.top ∷ a.right ∷ a.bottom ∷ p.px ∷ p.py ∷ []

  abbrev value_e : Exp → Exp → Exp → Exp → Exp
  value_e x1 y1 x2 y2 = (var 5 ⊖ y1) ⊗ (x2 ⊖ x1) ⊖ (var 4 ⊖ x1) ⊗ (y2 ⊖ y1)

  wider : pos 0 <ℤ (a.right -ℤ a.left)
  wider = lt_of ρ (con (pos 0)) (var 2 ⊖ var 0) (omega (arith, lt_to ρ (var 0) (var 2) a.wide))

  higher : pos 0 <ℤ (a.bottom -ℤ a.top)
  higher = lt_of ρ (con (pos 0)) (var 3 ⊖ var 1) (omega (arith, lt_to ρ (var 1) (var 3) a.high))

  -- how far the point is from each side, times the side's length
  abbrev from_top : ℤ
  from_top = (p.py -ℤ a.top) *ℤ (a.right -ℤ a.left)

  abbrev from_bottom : ℤ
  from_bottom = (a.bottom -ℤ p.py) *ℤ (a.right -ℤ a.left)

  abbrev from_left : ℤ
  from_left = (p.px -ℤ a.left) *ℤ (a.bottom -ℤ a.top)

  abbrev from_right : ℤ
  from_right = (a.right -ℤ p.px) *ℤ (a.bottom -ℤ a.top)

  abbrev top_e : Exp
  top_e = (var 5 ⊖ var 1) ⊗ (var 2 ⊖ var 0)

  abbrev bottom_e : Exp
  bottom_e = (var 3 ⊖ var 5) ⊗ (var 2 ⊖ var 0)

  abbrev left_e : Exp
  left_e = (var 4 ⊖ var 0) ⊗ (var 3 ⊖ var 1)

  abbrev right_e : Exp
  right_e = (var 2 ⊖ var 4) ⊗ (var 3 ⊖ var 1)

  abbrev top_side : Edge
  top_side = edge_between (left_top a) (right_top a)

  abbrev right_side : Edge
  right_side = edge_between (right_top a) (right_bottom a)

  abbrev bottom_side : Edge
  bottom_side = edge_between (right_bottom a) (left_bottom a)

  abbrev left_side : Edge
  left_side = edge_between (left_bottom a) (left_top a)

  top-value : edge_value top_side p ≡ from_top
  unfolding edge_value
  top-value = solve ρ (value_e (var 0) (var 1) (var 2) (var 1)) top_e tt

  right-value : edge_value right_side p ≡ from_right
  unfolding edge_value
  right-value = solve ρ (value_e (var 2) (var 1) (var 2) (var 3)) right_e tt

  bottom-value : edge_value bottom_side p ≡ from_bottom
  unfolding edge_value
  bottom-value = solve ρ (value_e (var 2) (var 3) (var 0) (var 3)) bottom_e tt

  left-value : edge_value left_side p ≡ from_left
  unfolding edge_value
  left-value = solve ρ (value_e (var 0) (var 3) (var 0) (var 1)) left_e tt

  -- the point lies within all four
  record InFour : Type 0 where
    in_left : le_z a.left p.px ≡ true
    in_right : lt_z p.px a.right ≡ true
    in_top : le_z a.top p.py ≡ true
    in_bottom : lt_z p.py a.bottom ≡ true

  in_four : in_rectangle a p ≡ true → InFour
  in_four h = record {
    in_left = search (and_l, and_r);
    in_right = search (and_l, and_r);
    in_top = search (and_l, and_r);
    in_bottom = search (and_l, and_r);
  }

  four_in : InFour → in_rectangle a p ≡ true
  four_in f = rw (f.in_left, f.in_right, f.in_top, f.in_bottom)

  from-values : pos 0 ≤ℤ from_left → pos 0 <ℤ from_right → pos 0 ≤ℤ from_top → pos 0 <ℤ from_bottom → InFour
  from-values l r t b = record {
    in_left = product_le a.left p.px (a.bottom -ℤ a.top) higher l;
    in_right = product_lt p.px a.right (a.bottom -ℤ a.top) higher r;
    in_top = product_le a.top p.py (a.right -ℤ a.left) wider t;
    in_bottom = product_lt p.py a.bottom (a.right -ℤ a.left) wider b;
  }

  top-side : (inside top_side p ≡ true) ↔ (pos 0 ≤ℤ from_top)
  top-side = kept_side top_side p top-value (inr (level a.top, wider))

  left-side : (inside left_side p ≡ true) ↔ (pos 0 ≤ℤ from_left)
  left-side =
      kept_side left_side p left-value
      (inl (lt_of ρ (var 1 ⊖ var 3) (con (pos 0)) (omega (arith, lt_to ρ (var 1) (var 3) a.high))))

  right_side_lem : (inside right_side p ≡ true) ↔ (pos 0 <ℤ from_right)
  right_side_lem = lost_side right_side p right-value (inl higher)

  bottom-side : (inside bottom_side p ≡ true) ↔ (pos 0 <ℤ from_bottom)
  bottom-side =
      lost_side bottom_side p bottom-value
      (inr (level a.bottom, lt_of ρ (var 0 ⊖ var 2) (con (pos 0)) (omega (arith, lt_to ρ (var 0) (var 2) a.wide))))

  four_sides : InFour
      → (inside top_side p ≡ true) × (inside right_side p ≡ true) × (inside bottom_side p ≡ true) × (inside left_side p ≡ true)
  four_sides f = (
    top-side.1 (le-product a.top p.py (a.right -ℤ a.left) wider (le_z_true a.top p.py f.in_top)),
    right_side_lem.1 (lt-product p.px a.right (a.bottom -ℤ a.top) higher (lt_z_true p.px a.right f.in_right)),
    bottom-side.1 (lt-product p.py a.bottom (a.right -ℤ a.left) wider (lt_z_true p.py a.bottom f.in_bottom)),
    left-side.1 (le-product a.left p.px (a.bottom -ℤ a.top) higher (le_z_true a.left p.px f.in_left)),
  )

  abbrev falling_back : Edge
  falling_back = edge_between (right_bottom a) (left_top a)

  abbrev rising_back : Edge
  rising_back = edge_between (right_top a) (left_bottom a)

  -- inside two sides and a diagonal, in its two directions: within all four

  above-falling : inside top_side p ≡ true → inside right_side p ≡ true → inside falling_back p ≡ true → InFour
  unfolding edge_value
  above-falling ht hr hd =
      let t = le_to ρ (con (pos 0)) top_e (top-side.0 ht) in
      let r = lt_to ρ (con (pos 0)) right_e (right_side_lem.0 hr) in
      let d = le_to ρ (con (pos 0)) (value_e (var 2) (var 3) (var 0) (var 1)) (value-le falling_back p hd) in
      from-values
      (le_of ρ (con (pos 0)) left_e (omega (arith, t, d)))
      (right_side_lem.0 hr)
      (top-side.0 ht)
      (lt_of ρ (con (pos 0)) bottom_e (omega (arith, r, d)))

  below-falling : inside bottom_side p ≡ true → inside left_side p ≡ true → inside (turned falling_back) p ≡ true → InFour
  unfolding edge_value
  below-falling hb hl hd =
      let b = lt_to ρ (con (pos 0)) bottom_e (bottom-side.0 hb) in
      let l = le_to ρ (con (pos 0)) left_e (left-side.0 hl) in
      let d = le_to ρ (con (pos 0)) (value_e (var 0) (var 1) (var 2) (var 3)) (value-le (turned falling_back) p hd) in
      from-values
      (left-side.0 hl)
      (lt_of ρ (con (pos 0)) right_e (omega (arith, b, d)))
      (le_of ρ (con (pos 0)) top_e (omega (arith, l, d)))
      (bottom-side.0 hb)

  above-rising : inside top_side p ≡ true → inside rising_back p ≡ true → inside left_side p ≡ true → InFour
  unfolding edge_value
  above-rising ht hd hl =
      let t = le_to ρ (con (pos 0)) top_e (top-side.0 ht) in
      let l = le_to ρ (con (pos 0)) left_e (left-side.0 hl) in
      let d = lt_to ρ (con (pos 0)) (value_e (var 2) (var 1) (var 0) (var 3)) ((lost_side rising_back p refl (inl higher)).0 hd) in
      from-values
      (left-side.0 hl)
      (lt_of ρ (con (pos 0)) right_e (omega (arith, t, d)))
      (top-side.0 ht)
      (lt_of ρ (con (pos 0)) bottom_e (omega (arith, l, d)))

  below-rising : inside bottom_side p ≡ true → inside (turned rising_back) p ≡ true → inside right_side p ≡ true → InFour
  unfolding edge_value
  below-rising hb hd hr =
      let b = lt_to ρ (con (pos 0)) bottom_e (bottom-side.0 hb) in
      let r = lt_to ρ (con (pos 0)) right_e (right_side_lem.0 hr) in
      let d = le_to ρ (con (pos 0)) (value_e (var 0) (var 3) (var 2) (var 1)) (value-le (turned rising_back) p hd) in
      from-values
      (le_of ρ (con (pos 0)) left_e (omega (arith, b, d)))
      (right_side_lem.0 hr)
      (le_of ρ (con (pos 0)) top_e (omega (arith, r, d)))
      (bottom-side.0 hb)

  -- the two triangles

  module _ {t u : Triangle} where
    first_within : Split a t u → inside_all t.vertices p ≡ true → InFour
    first_within (falling c d) h = let i = inside-corners c p h in above-falling i.0 i.1 i.2
    first_within (rising c d) h = let i = inside-corners c p h in above-rising i.0 i.1 i.2

    second_within : Split a t u → inside_all u.vertices p ≡ true → InFour
    second_within (falling c d) h = let i = inside-corners d p h in below-falling i.0 i.1 i.2
    second_within (rising c d) h = let i = inside-corners d p h in below-rising i.0 i.1 i.2

    one_of_two : Split a t u → InFour → inside_all u.vertices p ≡ not (inside_all t.vertices p)
    one_of_two (falling c d) f =
        let i = four_sides f in
        rw (corners-inside c p, corners-inside d p, i.0, i.1, i.2, i.3)
        (exactly_one_side falling_back p (inr (not_level a.high)))
    one_of_two (rising c d) f =
        let i = four_sides f in
        rw (
          corners-inside c p,
          corners-inside d p,
          i.0,
          i.1,
          i.2,
          i.3,
          and_whole (inside rising_back p),
          and_whole (inside (turned rising_back) p),
        )
        (exactly_one_side rising_back p (inl (not_level a.wide)))

module _ (a : Rectangle) {t u : Triangle} (split : Split a t u) (s : Screen) where
  module _ (x y : ℕ) where
    pub covered_within : on_screen s x y ≡ true → in_rectangle a (sample x y) ≡ true → covered u s x y ≡ not (covered t s x y)
    covered_within o h =
        covered-screen u s x y o
        ∙ one_of_two a (sample x y) split (in_four a (sample x y) h)
        ∙ ap not (sym (covered-screen t s x y o))

    pub covered-beyond : in_rectangle a (sample x y) ≡ false → (covered t s x y ≡ false) × (covered u s x y ≡ false)
    covered-beyond h = (
      covered_none t s x y (none (inside_all t.vertices (sample x y)) (first_within a (sample x y) split)),
      covered_none u s x y (none (inside_all u.vertices (sample x y)) (second_within a (sample x y) split)),
    )
      where
        none : (b : Bool) → (b ≡ true → InFour a (sample x y)) → b ≡ false
        none true k = sym (four_in a (sample x y) (k refl)) ∙ h
        none false k = refl

    -- both in one
    pub covered_once : on_screen s x y ≡ true → bit (covered t s x y) + bit (covered u s x y) ≡ bit (in_rectangle a (sample x y))
    covered_once o = go (in_rectangle a (sample x y)) refl
      where
        one : (b : Bool) → bit b + bit (not b) ≡ 1
        one true = refl
        one false = refl

        go : (b : Bool) → in_rectangle a (sample x y) ≡ b → bit (covered t s x y) + bit (covered u s x y) ≡ bit b
        go true h = ap (λ c. bit (covered t s x y) + bit c) (covered_within o h) ∙ one (covered t s x y)
        go false h = let n = covered-beyond h in rw (n.0, n.1)

  pub covered-counts : covered_pixels t s + covered_pixels u s
      ≡ pixels (λ x y. in_rectangle a (sample x y)) (width s.size) (height s.size)
  covered-counts =
      pixels-sum (covered t s) (covered u s) (λ x y. in_rectangle a (sample x y)) (width s.size) (height s.size)
      (λ x y h k. covered_once x y (rw (lt-ltb x (width s.size) h, lt-ltb y (height s.size) k)))
