-- An edge crosses a row at one column: `times` its rising value, and what columns add, keeps its sign, and the crossing says from which
-- column on it is not negative, since the roundings of all rows, times the step across, are less than a unit. A row down adds the same
-- number everywhere. Said once over the edge.
use Prim.Native.Nat.{ℕ, zero, suc, ◌+◌, ◌*◌, ◌-◌, ◌≤◌, ◌<◌}
use mathlib.Core.Path.{◌≡◌, refl, sym, ◌∙◌, ap, subst}
use mathlib.Core.List.{[], ◌∷◌}
use mathlib.Core.Bool.{Bool, true, false, not, not-not}
use native.Mathlib.Nat.{mul-le-mul}
use native.Mathlib.Omega.{arith}
use lib.Dec.{leb, ltb}
use lib.IntN.{ℤ, pos, negsuc, ◌+ℤ◌, ◌-ℤ◌, ◌*ℤ◌}
use lib.Signed.{non_neg}
use Rattle.std.proofs.lemmas.Int.{ints}
use Rattle.ints.proofs.Poly.{var, con, neg, ◌⊕◌, ◌⊖◌, ◌⊗◌, solve}
use Rattle.ints.proofs.Order.{le_non_neg, lt_non_neg}
use Rattle.ints.proofs.Bounds.{Within, within_pos, within_lit, within_sub, within_mul, within_le}
use Rattle.rules.specs.declared.Vertices.{Vertices}
use Rattle.rules.specs.Folds.{choose}
use Rattle.rules.specs.Triangles.{Edge, dx, dy, edge1, edge2, edge3, sample, inside, positive, is_zero}
use Rattle.rules.specs.Numbers.{vertices_in_range}
use Rattle.rules.proofs.Choices.{not_leb}
use Rattle.cover.specs.declared.Side.{Side}
use Rattle.cover.specs.declared.Three.{Three}
use Rattle.cover.specs.Units.{unit, raise, lift, Rounded}
use Rattle.cover.specs.Side.{sided, rising, across, times, scale, down}
use Rattle.cover.specs.Side.{SideOf, SidesOf, CrossingOf, CrossingsOf, Addable, CanGoBelow}
use Rattle.edges.proofs.Within.{EdgeWithin, edge_within, edges_in_range}
use Rattle.cover.proofs.Along.{inside_sided, slope, sided-right, sided-down, sided_within, level_within}
use Rattle.cover.proofs.Quotients.{rounded_crosses, rounded_sum, rounded_low, rounded_high}

-- signs

-- no column of a screen changes the sign of 640 times a whole number
scaled : (z : ℤ) (x : ℕ) → x < 640 → non_neg (pos 640 *ℤ z +ℤ pos (1 * x)) ≡ non_neg z
scaled (pos n) x h = le_non_neg (pos 640 *ℤ pos n +ℤ pos (1 * x)) (omega (arith, ints))
scaled (negsuc n) x h = lt_non_neg (pos 640 *ℤ negsuc n +ℤ pos (1 * x)) (omega (arith, ints))

opposed : (z : ℤ) → non_neg (negsuc 0 -ℤ z) ≡ not (non_neg z)
opposed (pos n) = lt_non_neg (negsuc 0 -ℤ pos n) (omega (arith, ints))
opposed (negsuc n) = le_non_neg (negsuc 0 -ℤ negsuc n) (omega (arith, ints))

-- along a row and down a column

module _ (e : Edge) (x y : ℕ) where
  across-row : sided e x y ≡ sided e 0 y +ℤ slope e *ℤ pos x
  across-row =
      let i : 0 + x ≡ x = omega arith in
      ap (λ (n : ℕ). sided e n y) (sym i) ∙ sided-right e 0 x y

  row-of : (d : ℤ) → dy e ≡ d → sided e x y ≡ sided e 0 y +ℤ (pos 0 -ℤ pos 8 *ℤ d) *ℤ pos x
  row-of d k = across-row ∙ ap (λ (z : ℤ). sided e 0 y +ℤ (pos 0 -ℤ pos 8 *ℤ z) *ℤ pos x) k

  -- an edge that is not level rises by its step across; a level one stays
  along : (d : ℤ) → dy e ≡ d → x < 640
      → non_neg (pos (times d) *ℤ choose (positive d) (negsuc 0 -ℤ sided e 0 y) (sided e 0 y) +ℤ pos (across d * x))
      ≡ non_neg (choose (positive d) (negsuc 0 -ℤ sided e x y) (sided e x y))
  along (pos zero) k h =
      scaled (sided e 0 y) x h
      ∙ ap non_neg
      (solve (sided e 0 y ∷ pos x ∷ []) (var 0) (var 0 ⊕ (con (pos 0) ⊖ con (pos 8) ⊗ con (pos 0)) ⊗ var 1) tt
      ∙ sym (row-of (pos 0) k))
  along (pos (suc n)) k h =
      ap non_neg
      (solve (sided e 0 y ∷ pos (suc n) ∷ pos x ∷ [])
      (con (pos 1) ⊗ (con (negsuc 0) ⊖ var 0) ⊕ con (pos 8) ⊗ var 1 ⊗ var 2)
      (con (negsuc 0) ⊖ (var 0 ⊕ (con (pos 0) ⊖ con (pos 8) ⊗ var 1) ⊗ var 2)) tt
      ∙ ap (λ (z : ℤ). negsuc 0 -ℤ z) (sym (row-of (pos (suc n)) k)))
  along (negsuc n) k h =
      ap non_neg
      (solve (sided e 0 y ∷ pos (suc n) ∷ pos x ∷ [])
      (con (pos 1) ⊗ var 0 ⊕ con (pos 8) ⊗ var 1 ⊗ var 2)
      (var 0 ⊕ (con (pos 0) ⊖ con (pos 8) ⊗ neg (var 1)) ⊗ var 2) tt
      ∙ sym (row-of (negsuc n) k))

lower : (e : Edge) (y : ℕ) (s : ℤ) (b : Bool)
    → s *ℤ choose b (negsuc 0 -ℤ sided e 0 y) (sided e 0 y) +ℤ s *ℤ choose b (pos 0 -ℤ pos 8 *ℤ dx e) (pos 8 *ℤ dx e)
    ≡ s *ℤ choose b (negsuc 0 -ℤ sided e 0 (y + 1)) (sided e 0 (y + 1))
lower e y s true =
    rw (sided-down e 0 y)
    (solve (sided e 0 y ∷ dx e ∷ s ∷ [])
    (var 2 ⊗ (con (negsuc 0) ⊖ var 0) ⊕ var 2 ⊗ (con (pos 0) ⊖ con (pos 8) ⊗ var 1))
    (var 2 ⊗ (con (negsuc 0) ⊖ (var 0 ⊕ con (pos 8) ⊗ var 1))) tt)
lower e y s false =
    rw (sided-down e 0 y)
    (solve (sided e 0 y ∷ dx e ∷ s ∷ [])
    (var 2 ⊗ var 0 ⊕ var 2 ⊗ (con (pos 8) ⊗ var 1))
    (var 2 ⊗ (var 0 ⊕ con (pos 8) ⊗ var 1)) tt)

-- the step across is 1 at least, and small
pub across_least : (d : ℤ) → 1 ≤ across d
across_least (pos zero) = omega arith
across_least (pos (suc n)) = omega arith
across_least (negsuc n) = omega arith

across-most : (d : ℤ) → Within 16384 d → across d ≤ 131072
across-most (pos zero) w = omega arith
across-most (pos (suc n)) w = omega (arith, w.within)
across-most (negsuc n) w = omega (arith, w.within)

-- the crossing

module _ (e : Edge) (w : EdgeWithin e) (y : ℕ) (l : y ≤ 480) (m : ℕ) (h : CrossingOf e y m) where
  -- the roundings, times the step across, are less than a unit
  less : across (dy e) * (y + 1) < unit
  less =
      let n : y + 1 ≤ 481 = omega arith in
      let p : across (dy e) * (y + 1) ≤ 131072 * 481 = mul-le-mul (across-most (dy e) (within_sub w.in_y2 w.in_y1)) n in
      omega arith

  rises_at : (x : ℕ) → x < 640 → non_neg (rising e x y) ≡ leb raise (unit * x + m)
  rises_at x k =
      sym (along e x y (dy e) refl k)
      ∙ rounded_crosses h (pos (times (dy e)) *ℤ rising e 0 y) units less (across_least (dy e)) x
    where
      units : scale (dy e) *ℤ rising e 0 y ≡ pos unit *ℤ (pos (times (dy e)) *ℤ rising e 0 y)
      units =
          solve (pos (times (dy e)) ∷ rising e 0 y ∷ [])
          (con (pos unit) ⊗ var 0 ⊗ var 1)
          (con (pos unit) ⊗ (var 0 ⊗ var 1)) tt

  -- from the crossing on, or up to it
  pub crossing_inside : (x : ℕ) → x < 640
      → inside e (sample x y) ≡ choose (positive (dy e)) (ltb (unit * x + m) raise) (leb raise (unit * x + m))
  crossing_inside x k = inside_sided e x y ∙ go (positive (dy e)) refl
    where
      rises : (b : Bool) → positive (dy e) ≡ b → non_neg (choose b (negsuc 0 -ℤ sided e x y) (sided e x y)) ≡ leb raise (unit * x + m)
      rises b j =
          subst (λ (s : Bool). non_neg (choose s (negsuc 0 -ℤ sided e x y) (sided e x y)) ≡ leb raise (unit * x + m)) j (rises_at x k)

      go : (b : Bool) → positive (dy e) ≡ b → non_neg (sided e x y) ≡ choose b (ltb (unit * x + m) raise) (leb raise (unit * x + m))
      go true j =
          let r : non_neg (negsuc 0 -ℤ sided e x y) ≡ leb raise (unit * x + m) = rises true j in
          sym (not-not (non_neg (sided e x y))) ∙ ap not (sym (opposed (sided e x y)) ∙ r) ∙ not_leb raise (unit * x + m)
      go false j = rises false j

-- a row down
pub crossing_below : (e : Edge) (y : ℕ) (d : Side) (m : ℕ) → SideOf e d → CrossingOf e y m → Addable m d.down
    → CrossingOf e (y + 1) (m + d.down - lift)
crossing_below e y d m o h k =
    subst (λ (z : ℤ). Rounded z (across (dy e)) raise (y + 1 + 1) (m + d.down - lift)) (lower e y (scale (dy e)) (positive (dy e)))
    (rounded_sum h o.is_down k.low)

-- bounds

rising_either : {z : ℤ} {n : ℕ} (b : Bool) → Within n z → Within (1 + n) (choose b (negsuc 0 -ℤ z) z)
rising_either true w = within_sub (within_lit {n = 1} {z = negsuc 0} tt) w
rising_either false w = within_le (omega arith) w

pub rising_within : (e : Edge) → EdgeWithin e → (y : ℕ) → y ≤ 512 → Within 419659778 (rising e 0 y)
rising_within e w y h = rising_either (positive (dy e)) (sided_within e w 0 y (omega arith) h)

-- a level edge's value is half as large at most, and so its larger scale is no harm
pub scaled_within : (e : Edge) → EdgeWithin e → (y : ℕ) → y ≤ 512 → Within 8700000000000000000 (scale (dy e) *ℤ rising e 0 y)
scaled_within e w y h = go (is_zero (dy e)) refl
  where
    go : (b : Bool) → is_zero (dy e) ≡ b → Within 8700000000000000000 (pos (unit * choose b 640 1) *ℤ rising e 0 y)
    go true k =
        within_le (omega arith)
        (within_mul (within_pos {n = 42949672960} (omega arith)) (rising_either (positive (dy e)) (level_within e w k 0 y (omega arith) h)))
    go false k =
        within_le (omega arith)
        (within_mul (within_pos {n = 67108864} (omega arith)) (rising_within e w y h))

pub down_within : (x y : ℤ) → Within 16384 x → Within 131072 (down x y)
down_within x y w = go (positive y)
  where
    eight : Within 131072 (pos 8 *ℤ x)
    eight = within_mul (within_lit {n = 8} {z = pos 8} tt) w

    go : (b : Bool) → Within 131072 (choose b (pos 0 -ℤ pos 8 *ℤ x) (pos 8 *ℤ x))
    go true = within_sub (within_lit {n = 0} {z = pos 0} tt) eight
    go false = eight

pub down_scaled_within : (x y : ℤ) → Within 16384 x → Within 5629499534213120 (scale y *ℤ down x y)
down_scaled_within x y w = go (is_zero y)
  where
    go : (b : Bool) → Within 5629499534213120 (pos (unit * choose b 640 1) *ℤ down x y)
    go true = within_mul (within_pos {n = 42949672960} (omega arith)) (down_within x y w)
    go false = within_le (omega arith) (within_mul (within_pos {n = 67108864} (omega arith)) (down_within x y w))

-- an edge's crossing can be taken a row down
can_go_below : (e : Edge) → EdgeWithin e → (y : ℕ) → y ≤ 512 → (d : Side) (m : ℕ) → SideOf e d → CrossingOf e y m → Addable m d.down
can_go_below e w y h d m o k =
    let v = scaled_within e w y h in
    let u = down_scaled_within (dx e) (dy e) (within_sub w.in_x2 w.in_x1) in
    let s = across_least (dy e) in
    record {
      low = omega (arith, rounded_low k 8700000000000000000 v s, rounded_low o.is_down 5629499534213120 u s);
      high = omega (arith, rounded_high k 8700000000000000000 v s, rounded_high o.is_down 5629499534213120 u s);
    }

pub crossings_can_go_below : (t : Vertices) → vertices_in_range t ≡ true → (y : ℕ) → y ≤ 512 → (d : Three Side) (m : Three ℕ)
    → SidesOf t d
    → CrossingsOf t y m
    → CanGoBelow m d
crossings_can_go_below t r y h d m o k =
    let e = edges_in_range t r in
    record {
      first = can_go_below (edge1 t) (edge_within (edge1 t) e.0) y h d.p m.p o.of1 k.of1;
      second = can_go_below (edge2 t) (edge_within (edge2 t) e.1) y h d.q m.q o.of2 k.of2;
      third = can_go_below (edge3 t) (edge_within (edge3 t) e.2) y h d.r m.r o.of3 k.of3;
    }
