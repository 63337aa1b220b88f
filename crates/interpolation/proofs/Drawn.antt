-- A triangle whose depth is the plane through three values, drawn: from the two calls' contracts alone. At every pixel that it covers the
-- plane is near the exact value and is the word that the drawing takes, and the depth drawn is its top half, between the three values. Of
-- a colour's planes the same holds, so no part of a colour wraps.
use Prim.Native.Nat.{ℕ, ◌%◌, ◌≤◌, ◌<◌}
use mathlib.Core.Path.{◌≡◌, sym, ◌∙◌, ap, subst}
use mathlib.Core.Bool.{true}
use mathlib.Core.List.{List}
use native.Mathlib.Nat.{mod-eq_of_lt, lt_of_le_of_lt}
use native.Mathlib.Omega.{arith}
use lib.IntN.{ℤ, pos, nat_abs}
use borrow.Author.Tests.{leb-true}
use lib.ListN.{length}
use lib.Signed.{le_z, ◌≤ℤ◌, ◌<ℤ◌}
use Rattle.ints.proofs.Order.{le_z_true}
use Rattle.rules.specs.declared.Screen.{Screen}
use Rattle.rules.specs.declared.Plane.{Plane}
use Rattle.rules.specs.declared.Vertices.{Vertices}
use Rattle.rules.specs.declared.Triangle.{Triangle}
use Rattle.rules.specs.declared.Drawn.{Drawn}
use Rattle.rules.specs.Sizes.{groups, height, size_in_range, sound_areas, sound, depth_at}
use Rattle.rules.specs.Triangles.{doubled_area, sample, inside_all, covered, at_most_stored, written, triangle_depth, plane_at, top_half}
use Rattle.rules.specs.Calls.{Draws}
use Rattle.rules.proofs.Choices.{and_true, accepted_yes, positive-lt}
use Rattle.rules.proofs.Strips.{and_l, and_r}
use Rattle.rules.proofs.Drawing.{covered_on}
use Rattle.order.specs.Pointwise.{Holds}
use Rattle.order.proofs.Sides.{inside-covered}
use Rattle.order.proofs.Order.{accepted-sound}
use Rattle.order.proofs.Client.{draw_paints}
use Rattle.interpolation.specs.declared.Values.{Values}
use Rattle.interpolation.specs.declared.Through.{Through}
use Rattle.interpolation.specs.Interpolation.{plane_through, value_in_range, through_number, zeros, PassesThrough}
use Rattle.interpolation.specs.Nearness.{value_at, Near, From}
use Rattle.interpolation.specs.Refusals.{HasPlane}
use Rattle.interpolation.proofs.Numbers.{through_numbers}
use Rattle.interpolation.proofs.Nearness.{near}
use Rattle.interpolation.proofs.Between.{above_least, at_most_greatest, plane_word, top_half_between}

-- a screen's size is at most 40 groups by 480 rows
module _ (s : Screen) (h : size_in_range s.size ≡ true) where
  groups-most : groups s.size ≤ 40
  groups-most = search (and_l, and_r, leb-true)

  height-most : height s.size ≤ 480
  height-most = search (and_l, and_r, leb-true)

value-from : (r : ℤ) → value_in_range r ≡ true → (pos 0 ≤ℤ r) × (r ≤ℤ pos 32767)
value-from r h = let (l, g) = and_true {a = le_z (pos 0) r} h in (le_z_true (pos 0) r l, le_z_true r (pos 32767) g)

module _ {v : Vertices} {r : Values} {answer : Through} (call : PassesThrough v r answer) (done : answer.number ≡ 0) where
  has_plane : HasPlane v r
  has_plane = ((through_numbers v r).done.0 (sym call.answers ∙ done)).1

  is-plane : answer.plane ≡ plane_through v r
  is-plane = call.gives ∙ accepted_yes (through_number v r) (plane_through v r) zeros (sym call.answers ∙ done)

  area : pos 0 <ℤ doubled_area v
  area = positive-lt (doubled_area v) has_plane.area

  all_values : From (pos 0) (pos 32767) r
  all_values = record {
    first = value-from r.r1 has_plane.first;
    second = value-from r.r2 has_plane.second;
    third = value-from r.r3 has_plane.third;
  }

  -- "For every accepted request and every pixel .. on a screen up to 640 by 480": of every pixel, covered or not
  pub near_everywhere : (x y : ℕ) → x < 640 → y < 480 → Near v r answer.plane x y
  near_everywhere x y hx hy = subst (λ (p : Plane). Near v r p x y) (sym is-plane) (near v r area x y hx hy)

module _
    (t : Triangle)
    (s : Screen)
    (x y : ℕ)
    {r : Values}
    {answer : Through}
    (call : PassesThrough t.vertices r answer)
    (done : answer.number ≡ 0)
    (size : size_in_range s.size ≡ true)
    (c : covered t s x y ≡ true)
  where
    pub near_covered : Near t.vertices r answer.plane x y
    near_covered =
        let on = covered_on t {s = s} c in
        near_everywhere call done x y
        (omega (arith, on.across, groups-most s size))
        (omega (arith, on.down, height-most s size))

    inside-here : inside_all t.vertices (sample x y) ≡ true
    inside-here = inside-covered t s x y c

    -- the value is from 1 to 2^31 - 64,417
    pub value-covered : (pos 0 <ℤ value_at answer.plane x y) × (value_at answer.plane x y ≤ℤ pos 2147419231)
    value-covered = (
      above_least (area call done) near_covered inside-here (all_values call done),
      at_most_greatest (area call done) near_covered inside-here (all_values call done),
    )

    -- so what the drawing takes, modulo 2^32, is the value itself
    pub word_covered : pos (plane_at answer.plane x y) ≡ value_at answer.plane x y
    word_covered = plane_word (area call done) near_covered inside-here (all_values call done)

    -- between any two numbers that the three values are between
    pub between-covered : {least greatest : ℕ}
        → From (pos least) (pos greatest) r
        → (least ≤ top_half (plane_at answer.plane x y)) × (top_half (plane_at answer.plane x y) ≤ greatest)
    between-covered f = top_half_between (area call done) near_covered inside-here f word_covered

    -- what a colour keeps of it is all of it: n is 32 for red and blue, 64 for green
    pub part_covered : {least greatest n : ℕ}
        → From (pos least) (pos greatest) r
        → greatest < n
        → top_half (plane_at answer.plane x y) % n ≡ top_half (plane_at answer.plane x y)
    part_covered f l = mod-eq_of_lt (lt_of_le_of_lt (between-covered f).1 l)

-- a triangle with this plane for its depth, drawn: at a pixel that is written
module _
    (t : Triangle)
    (s : Screen)
    (x y : ℕ)
    {r : Values}
    {answer : Through}
    {m after : List ℕ}
    {d : Drawn}
    (call : PassesThrough t.vertices r answer)
    (done : answer.number ≡ 0)
    (draws : Draws m s t d after)
    (accepted : d.number ≡ 0)
    (w : written t s m x y ≡ true)
  where
    size : size_in_range s.size ≡ true
    unfolding sound
    size =
        and_l (size_in_range s.size) (sound_areas (length m) s)
        (accepted-sound (length m) s t (sym draws.answers ∙ accepted))

    covers : covered t s x y ≡ true
    unfolding written
    covers = and_l (covered t s x y) (at_most_stored t s m x y) w

    -- the value is above 0, so `nat_abs` is the value itself
    pub depth-drawn : t.depth ≡ answer.plane → Holds after (depth_at s x y) (top_half (nat_abs (value_at answer.plane x y)))
    unfolding triangle_depth
    depth-drawn is =
        let on = covered_on t {s = s} covers in
        let same : triangle_depth t x y ≡ top_half (nat_abs (value_at answer.plane x y)) =
        ap (λ (p : Plane). top_half (plane_at p x y)) is
        ∙ ap (λ (z : ℤ). top_half (nat_abs z)) (word_covered t s x y call done size covers) in
        subst (Holds after (depth_at s x y)) same ((draw_paints draws accepted).painted x y on.across on.down w).1
