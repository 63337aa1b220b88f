-- Where pixels stand: each pixel has two half-words of its own, one for its colour and one for its depth, all within the RAM; those of a
-- group's sixteen leaves stand side by side. Of the laws only these open sound, colourAt and depthAt: a law of another file holds in any
-- layout of which these hold.
use Prim.Native.Nat.{ℕ, ◌+◌, ◌*◌, ◌-◌, ◌/◌, ◌%◌, ◌≤◌, ◌<◌}
use mathlib.Core.Path.{◌≡◌, refl, sym, ◌∙◌, ap, subst₂}
use mathlib.Core.Logic.{◌≢◌, ◌⊎◌, inl, inr}
use mathlib.Core.Bool.{Bool, true, false, ◌&&◌, ◌||◌, false≢true}
use native.Mathlib.Omega.{arith}
use native.Mathlib.Nat.{mul_comm, mul-le-mul_right}
use native.Mathlib.Decide.{dec_lt, ℕ_discrete}
use lib.Arith.{digits_lt, digits_div, digits_mod}
use lib.Dec.{leb}
use borrow.Author.Tests.{leb-true, eqb-true}
use Rattle.rules.specs.declared.Screen.{Screen}
use Rattle.rules.specs.Sizes.{groups, width, height, area, sound_areas, sound, Area, colour_at, depth_at}
use Rattle.ram.proofs.Halves.{Apart}

-- (x, y) is a pixel of the screen
pub record On (s : Screen) (x y : ℕ) : Type 0 where
  pub across : x < width s.size
  pub down : y < height s.size

-- (x', y') is another pixel than (x, y)
abbrev pub Other : ℕ → ℕ → ℕ → ℕ → Type 0
Other x y x' y' = (x' ≢ x) ⊎ (y' ≢ y)

-- two areas apart, in plain facts
pub record Areas (n : ℕ) (s : Screen) : Type 0 where
  pub colour_start : s.colour % 2 ≡ 0
  pub depth_start : s.depth % 2 ≡ 0
  pub colour_within : s.colour + area s.size ≤ n
  pub depth_within : s.depth + area s.size ≤ n
  pub areas_apart_lem : (s.colour + area s.size ≤ s.depth) ⊎ (s.depth + area s.size ≤ s.colour)

-- a sound screen in a RAM of n bytes, in plain facts
pub record Sound (n : ℕ) (s : Screen) : Type 0 where
  pub groups_low : 1 ≤ groups s.size
  pub groups_high : groups s.size ≤ 40
  pub height_low : 1 ≤ height s.size
  pub height_high : height s.size ≤ 480
  pub laid : Areas n s

pub and_l : (a b : Bool) → (a && b) ≡ true → a ≡ true
and_l true b e = refl
and_l false b e = e

pub and_r : (a b : Bool) → (a && b) ≡ true → b ≡ true
and_r true b e = e
and_r false b e = absurd (false≢true e)

either : (a b c d : ℕ) → (leb a b || leb c d) ≡ true → (a ≤ b) ⊎ (c ≤ d)
either a b c d e = go (leb a b) refl e
  where
    go : (t : Bool) → leb a b ≡ t → (t || leb c d) ≡ true → (a ≤ b) ⊎ (c ≤ d)
    go true p q = inl (leb-true a b p)
    go false p q = inr (leb-true c d q)

areas_facts : {n : ℕ} {s : Screen} → sound_areas n s ≡ true → Areas n s
unfolding sound_areas
areas_facts {n} {s} e = search (and_l, and_r, leb-true, eqb-true, either)

pub sound_facts : {n : ℕ} {s : Screen} → sound n s ≡ true → Sound n s
unfolding sound
sound_facts {n} {s} e = search (and_l, and_r, leb-true, areas_facts)

module _ {n : ℕ} {s : Screen} (k : Sound n s) where
  pub width-le : width s.size ≤ 640
  width-le = omega (arith, k.groups_high)

  pub height-le : height s.size ≤ 480
  height-le = k.height_high

-- a layout as strips of 32 bytes: a group's sixteen colours stand side by side, and so do its sixteen depths; the groups follow one another
-- at equal steps, and no two strips overlap

abbrev group_count : Screen → ℕ
group_count s = groups s.size * height s.size

abbrev leaf_at : Screen → ℕ → ℕ → ℕ → ℕ → ℕ
leaf_at s first stride x y = first + (y * groups s.size + x / 16) * stride + x % 16 * 2

record Strips (n : ℕ) (s : Screen) : Type 0 where
  colours : ℕ
  depths : ℕ
  stride : ℕ
  is_wide : 32 ≤ stride
  colour_is : (x y : ℕ) → colour_at s x y ≡ leaf_at s colours stride x y
  depth_is : (x y : ℕ) → depth_at s x y ≡ leaf_at s depths stride x y
  colours_fit : (i : ℕ) → i < group_count s → colours + i * stride + 32 ≤ n
  depths_fit : (i : ℕ) → i < group_count s → depths + i * stride + 32 ≤ n
  no_overlap : (i j : ℕ) → i < group_count s → j < group_count s
      → (colours + i * stride + 32 ≤ depths + j * stride) ⊎ (depths + j * stride + 32 ≤ colours + i * stride)

strips : {n : ℕ} {s : Screen} → Sound n s → Strips n s
unfolding colour_at depth_at
strips {n} {s} k = record {
  colours = s.colour;
  depths = s.depth;
  stride = 32;
  is_wide = omega arith;
  colour_is = λ x y. omega arith;
  depth_is = λ x y. omega arith;
  colours_fit = λ i l. omega (arith, k.laid.colour_within);
  depths_fit = λ i l. omega (arith, k.laid.depth_within);
  no_overlap = λ i j l m. apart i j l m k.laid.areas_apart_lem;
}
  where
    apart : (i j : ℕ) → i < group_count s → j < group_count s
        → (s.colour + area s.size ≤ s.depth) ⊎ (s.depth + area s.size ≤ s.colour)
        → (s.colour + i * 32 + 32 ≤ s.depth + j * 32) ⊎ (s.depth + j * 32 + 32 ≤ s.colour + i * 32)
    apart i j l m (inl h) = inl (omega arith)
    apart i j l m (inr h) = inr (omega arith)

-- a later group's strip is past an earlier one's
ahead : {i j : ℕ} (stride : ℕ) → i < j → i * stride + stride ≤ j * stride
ahead {i} {j} stride l = omega (arith, mul-le-mul_right {m = i + 1} {n = j} stride (omega arith))

module _ {s : Screen} {x y : ℕ} (p : On s x y) where
  group_index : y * groups s.size + x / 16 < group_count s
  group_index = omega (arith, digits_lt p.down leaf_group, mul_comm (groups s.size) (height s.size))
    where
      leaf_group : x / 16 < groups s.size
      leaf_group = omega (arith, p.across)

  module _ {x' y' : ℕ} (p' : On s x' y') where
    other_leaf : Other x y x' y'
        → (y * groups s.size + x / 16 ≢ y' * groups s.size + x' / 16) ⊎ (x % 16 ≢ x' % 16)
    other_leaf o = go o (ℕ_discrete (x % 16) (x' % 16))
      where
        g : ℕ
        g = groups s.size

        l : x / 16 < g
        l = omega (arith, p.across)

        l' : x' / 16 < g
        l' = omega (arith, p'.across)

        go : Other x y x' y' → Dec (x % 16 ≡ x' % 16) → (y * g + x / 16 ≢ y' * g + x' / 16) ⊎ (x % 16 ≢ x' % 16)
        go (inl d) (yes e) =
            inl (λ h.
            let q : x / 16 ≡ x' / 16 = sym (digits_mod y l) ∙ ap (λ i. i % g) h ∙ digits_mod y' l' in
            d (omega arith))
        go (inr d) (yes e) = inl (λ h. d (sym (sym (digits_div y l) ∙ ap (λ i. i / g) h ∙ digits_div y' l')))
        go o (no e) = inr e

    leaves_apart : (first stride : ℕ) → 32 ≤ stride → Other x y x' y' → Apart (leaf_at s first stride x y) (leaf_at s first stride x' y')
    leaves_apart first stride w o =
        go (y * groups s.size + x / 16) (y' * groups s.size + x' / 16) (other_leaf o)
      where
        go : (i j : ℕ) → (i ≢ j) ⊎ (x % 16 ≢ x' % 16) → Apart (first + i * stride + x % 16 * 2) (first + j * stride + x' % 16 * 2)
        go i j d = by (dec_lt i j) (dec_lt j i) (dec_lt (x % 16) (x' % 16)) d
          where
            by : Dec (i < j) → Dec (j < i) → Dec (x % 16 < x' % 16) → (i ≢ j) ⊎ (x % 16 ≢ x' % 16)
                → Apart (first + i * stride + x % 16 * 2) (first + j * stride + x' % 16 * 2)
            by (yes l) m k d = inl (omega (arith, ahead stride l))
            by (no l) (yes m) k d = inr (omega (arith, ahead stride m))
            by (no l) (no m) k (inl d) = absurd (d (omega arith))
            by (no l) (no m) (yes k) (inr d) =
                let e : i ≡ j = omega arith in
                inl (omega (arith, ap (λ n. n * stride) e))
            by (no l) (no m) (no k) (inr d) =
                let e : i ≡ j = omega arith in
                inr (omega (arith, ap (λ n. n * stride) e))

module _ {n : ℕ} {s : Screen} (k : Sound n s) {x y : ℕ} (p : On s x y) where
  pub colour-fits : colour_at s x y + 1 < n
  colour-fits = let t = strips k in omega (arith, t.colour_is x y, t.colours_fit _ (group_index p))

  pub depth-fits : depth_at s x y + 1 < n
  depth-fits = let t = strips k in omega (arith, t.depth_is x y, t.depths_fit _ (group_index p))

  module _ {x' y' : ℕ} (p' : On s x' y') where
    pub colour_apart : Other x y x' y' → Apart (colour_at s x y) (colour_at s x' y')
    colour_apart o =
        let t = strips k in
        subst₂ Apart (sym (t.colour_is x y)) (sym (t.colour_is x' y')) (leaves_apart p p' t.colours t.stride t.is_wide o)

    pub depth_apart : Other x y x' y' → Apart (depth_at s x y) (depth_at s x' y')
    depth_apart o =
        let t = strips k in
        subst₂ Apart (sym (t.depth_is x y)) (sym (t.depth_is x' y')) (leaves_apart p p' t.depths t.stride t.is_wide o)

    pub colour_depth_apart : Apart (colour_at s x y) (depth_at s x' y')
    colour_depth_apart =
        let t = strips k in
        subst₂ Apart (sym (t.colour_is x y)) (sym (t.depth_is x' y'))
        (go (t.colours + (y * groups s.size + x / 16) * t.stride) (t.depths + (y' * groups s.size + x' / 16) * t.stride)
        (t.no_overlap _ _ (group_index p) (group_index p')))
      where
        go : (a b : ℕ) → (a + 32 ≤ b) ⊎ (b + 32 ≤ a) → Apart (a + x % 16 * 2) (b + x' % 16 * 2)
        go a b (inl h) = inl (omega arith)
        go a b (inr h) = inr (omega arith)

-- the leaves of a group stand side by side
module _ {n : ℕ} {s : Screen} (k : Sound n s) (x i y : ℕ) (e : x % 16 ≡ 0) (l : i < 16) where
  side_by_side : (first stride : ℕ) → leaf_at s first stride (x + i) y ≡ leaf_at s first stride x y + 2 * i
  side_by_side first stride =
      let same : (x + i) / 16 ≡ x / 16 = omega arith in
      omega (arith, ap (λ j. (y * groups s.size + j) * stride) same)

  pub colour_leaf : colour_at s (x + i) y ≡ colour_at s x y + 2 * i
  colour_leaf =
      let t = strips k in
      omega (arith, t.colour_is (x + i) y, t.colour_is x y, side_by_side t.colours t.stride)

  pub depth_leaf : depth_at s (x + i) y ≡ depth_at s x y + 2 * i
  depth_leaf =
      let t = strips k in
      omega (arith, t.depth_is (x + i) y, t.depth_is x y, side_by_side t.depths t.stride)

-- the pixels of an area follow one another, row by row
module _ (s : Screen) (x y : ℕ) where
  pub colour_in_area : colour_at s x y ≡ s.colour + (y * width s.size + x) * 2
  unfolding colour_at
  colour_in_area = refl

  pub depth_in_area : depth_at s x y ≡ s.depth + (y * width s.size + x) * 2
  unfolding depth_at
  depth_in_area = refl

-- so those of a row do, and each lies in the RAM: what is known of an area, whichever of the two it is
pub record RowByRow (at : Area) : Type 0 where
  pub in_row : (s : Screen) (x y : ℕ) → at s x y ≡ at s 0 y + x * 2
  pub within : (n : ℕ) (s : Screen) (x y : ℕ) → Sound n s → On s x y → at s x y + 1 < n

pub colours_by_row : RowByRow colour_at
colours_by_row = record {
  in_row = λ s x y. omega (arith, colour_in_area s x y, colour_in_area s 0 y);
  within = λ n s x y k p. colour-fits k p;
}

pub depths_by_row : RowByRow depth_at
depths_by_row = record {
  in_row = λ s x y. omega (arith, depth_in_area s x y, depth_in_area s 0 y);
  within = λ n s x y k p. depth-fits k p;
}

-- a row's bytes lie in the RAM: "2 × width" of them
pub row_fits : {at : Area} → RowByRow at → {n : ℕ} {s : Screen} {y : ℕ} → Sound n s → y < height s.size
    → at s 0 y + 2 * width s.size ≤ n
row_fits {at} a {n} {s} {y} k h =
    let w : ℕ = width s.size in
    let e : w - 1 < w = omega (arith, k.groups_low) in
    omega (arith, a.within n s (w - 1) y k (record { across = e; down = h }), a.in_row s (w - 1) y)
