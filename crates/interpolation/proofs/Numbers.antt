-- When the call answers 0, when 6 and when 9, each exactly: by the definition's tests, one after the other.
use mathlib.Core.Path.{◌≡◌, refl, sym, ◌∙◌}
use mathlib.Core.Logic.{◌↔◌}
use mathlib.Core.Bool.{Bool, true, false, ◌&&◌, ◌||◌, not, false≢true}
use native.Mathlib.Omega.{arith}
use Rattle.rules.specs.declared.Vertices.{Vertices}
use Rattle.rules.specs.Folds.{choose}
use Rattle.rules.specs.Triangles.{positive, doubled_area}
use Rattle.rules.specs.Numbers.{vertices_in_range, in_signed32}
use Rattle.interpolation.specs.declared.Values.{Values}
use Rattle.interpolation.specs.Interpolation.{through_c, through_a, through_b, plane_through, value_in_range, values_in_range}
use Rattle.interpolation.specs.Interpolation.{plane_in_range, has_no_plane, through_number}
use Rattle.interpolation.specs.Refusals.{HasPlane, Lacks, first_value, second_value, third_value, area}
use Rattle.interpolation.specs.Refusals.{c_outside, a_outside, b_outside}

module _ (v : Vertices) (r : Values) where
  -- what has no plane lacks a part, and what lacks none has one
  abbrev Says : Bool → Type 0
  Says true = Lacks v r
  Says false = HasPlane v r

  told : (f s t d c a b : Bool)
      → value_in_range r.r1 ≡ f
      → value_in_range r.r2 ≡ s
      → value_in_range r.r3 ≡ t
      → positive (doubled_area v) ≡ d
      → in_signed32 (through_c v r) ≡ c
      → in_signed32 (through_a v r) ≡ a
      → in_signed32 (through_b v r) ≡ b
      → Says (not (f && s && t) || not d || not (c && a && b))
  told false s t d c a b p q u h i j k = first_value p
  told true false t d c a b p q u h i j k = second_value q
  told true true false d c a b p q u h i j k = third_value u
  told true true true false c a b p q u h i j k = area h
  told true true true true false a b p q u h i j k = c_outside i
  told true true true true true false b p q u h i j k = a_outside j
  told true true true true true true false p q u h i j k = b_outside k
  told true true true true true true true p q u h i j k =
      record { first = p; second = q; third = u; area = h; c = i; a = j; b = k }

  decided : Says (has_no_plane v r)
  unfolding has_no_plane values_in_range plane_in_range plane_through
  decided =
      told
      (value_in_range r.r1) (value_in_range r.r2) (value_in_range r.r3)
      (positive (doubled_area v))
      (in_signed32 (through_c v r)) (in_signed32 (through_a v r)) (in_signed32 (through_b v r))
      refl refl refl refl refl refl refl

  not_both : HasPlane v r → Lacks v r → ⊥
  not_both h (first_value e) = false≢true (sym e ∙ h.first)
  not_both h (second_value e) = false≢true (sym e ∙ h.second)
  not_both h (third_value e) = false≢true (sym e ∙ h.third)
  not_both h (area e) = false≢true (sym e ∙ h.area)
  not_both h (c_outside e) = false≢true (sym e ∙ h.c)
  not_both h (a_outside e) = false≢true (sym e ∙ h.a)
  not_both h (b_outside e) = false≢true (sym e ∙ h.b)

  -- the number by its two tests
  pub by_tests : (w n : Bool) → vertices_in_range v ≡ w → has_no_plane v r ≡ n → through_number v r ≡ choose (not w) 6 (choose n 9 0)
  unfolding through_number
  by_tests w n e f = rw (e, f)

  -- the parts of 9, one after the other

  pub values_outside : values_in_range r ≡ false → has_no_plane v r ≡ true
  unfolding has_no_plane
  values_outside h = rw h

  module _ (h : values_in_range r ≡ true) where
    pub area_outside : positive (doubled_area v) ≡ false → has_no_plane v r ≡ true
    unfolding has_no_plane
    area_outside k = rw (h, k)

  pub record Numbered : Type 0 where
    pub done : (through_number v r ≡ 0) ↔ ((vertices_in_range v ≡ true) × HasPlane v r)
    pub six : (through_number v r ≡ 6) ↔ (vertices_in_range v ≡ false)
    pub nine : (through_number v r ≡ 9) ↔ ((vertices_in_range v ≡ true) × Lacks v r)

  pub through_numbers : Numbered
  through_numbers = go (vertices_in_range v) (has_no_plane v r) refl refl decided
    where
      go : (w n : Bool) → vertices_in_range v ≡ w → has_no_plane v r ≡ n → Says n → Numbered
      go false n e f d =
          let is : through_number v r ≡ 6 = by_tests false n e f in
          record {
            done = (λ q. absurd (omega (arith, is, q)), λ h. absurd (false≢true (sym e ∙ h.0)));
            six = (λ q. e, λ q. is);
            nine = (λ q. absurd (omega (arith, is, q)), λ h. absurd (false≢true (sym e ∙ h.0)));
          }
      go true true e f d =
          let is : through_number v r ≡ 9 = by_tests true true e f in
          record {
            done = (λ q. absurd (omega (arith, is, q)), λ h. absurd (not_both h.1 d));
            six = (λ q. absurd (omega (arith, is, q)), λ q. absurd (false≢true (sym q ∙ e)));
            nine = (λ q. (e, d), λ h. is);
          }
      go true false e f d =
          let is : through_number v r ≡ 0 = by_tests true false e f in
          record {
            done = (λ q. (e, d), λ h. is);
            six = (λ q. absurd (omega (arith, is, q)), λ q. absurd (false≢true (sym q ∙ e)));
            nine = (λ q. absurd (omega (arith, is, q)), λ h. absurd (not_both d h.1));
          }
