-- What the call answers once its tests are known: 6, 9 or the plane.
use mathlib.Core.Path.{◌≡◌, refl, sym, ◌∙◌, ap, subst}
use mathlib.Core.Logic.{◌≢◌}
use mathlib.Core.Bool.{Bool, true, false, ◌&&◌, not}
use native.Mathlib.Omega.{arith}
use Prim.Native.Nat.{ℕ, ◌<◌}
use lib.IntN.{ℤ, pos, negsuc}
use lib.Signed.{le_z, mag}
use mir.Syntax.{w32, w64}
use mir.Val.{SFits, to_z, of_z}
use mir.ValLaws.{to_z-of_z}
use borrow.Author.Rules.{sfits_of}
use borrow.Author.Tests.{leb-true}
use Rattle.std.specs.Prelude.{Ok}
use Rattle.ints.proofs.Order.{not-not}
use Rattle.rules.specs.declared.Plane.{Plane}
use Rattle.rules.specs.declared.Vertices.{Vertices}
use Rattle.rules.specs.Triangles.{positive, doubled_area}
use Rattle.rules.specs.Numbers.{vertices_in_range, in_signed32}
use Rattle.rules.proofs.Choices.{and_true, accepted_yes, accepted_no, lt-positive, not_positive}
use Rattle.interpolation.specs.declared.Values.{Values}
use Rattle.interpolation.specs.declared.Through.{Through}
use Rattle.interpolation.specs.Answers.{through_of}
use Rattle.interpolation.specs.Interpolation.{through_c, through_a, through_b, plane_through, through_number, value_in_range, values_in_range, zeros, PassesThrough}
use Rattle.interpolation.specs.Refusals.{Lacks}
use Rattle.interpolation.proofs.Numbers.{by_tests, values_outside, area_outside, through_numbers}
use Rattle.through.specs.declared.Solvable.{Solvable}
use Rattle.through.proofs.Ranges.{reads_back}

-- a refusal, once its number is known
pub refuses : (v : Vertices) (r : Values) {n : ℕ} {t : Through}
    → through_number v r ≡ n
    → n ≢ 0
    → t.number ≡ n
    → t.plane ≡ zeros
    → PassesThrough v r t
refuses v r {n} e k a g = record {
  answers = a ∙ sym e;
  gives = g ∙ sym (accepted_no (through_number v r) (plane_through v r) zeros (λ z. k (sym e ∙ z)));
}

-- what is known before the plane is worked out

module _ (v : Vertices) (r : Values) where
  pub six_first : vertices_in_range v ≡ false → through_number v r ≡ 6
  six_first e = by_tests v r false _ e refl

  pub nine_by_values : vertices_in_range v ≡ true → values_in_range r ≡ false → through_number v r ≡ 9
  nine_by_values e f = by_tests v r true true e (values_outside v r f)

  -- an area that is not above 0
  pub nine_by_area : vertices_in_range v ≡ true
      → values_in_range r ≡ true
      → le_z (doubled_area v) (pos 0) ≡ true
      → through_number v r ≡ 9
  nine_by_area e f h =
      by_tests v r true true e
      (area_outside v r f (sym (not-not (positive (doubled_area v))) ∙ ap not (sym (not_positive (doubled_area v)) ∙ h)))

-- a number's test, as the number is read back
pub judged : {z y : ℤ} {t : Bool} → z ≡ y → mag z < 9223372036854775808 → in_signed32 (to_z w64 (of_z w64 z)) ≡ t → in_signed32 y ≡ t
judged {z} {y} e f h = ap in_signed32 (sym (reads_back {z = z} f ∙ e)) ∙ h

-- what is in signed 32 bits fits them
pub fits : (z : ℤ) → in_signed32 z ≡ true → SFits w32 z
fits (pos n) h = sfits_of (omega (arith, leb-true n 2147483647 h))
fits (negsuc n) h = sfits_of (omega (arith, leb-true n 2147483647 (and_true {b = true} h).0))

-- one that passes its test, as it is given back in 32 bits
pub narrowed : {n z y : ℤ}
    → n ≡ to_z w64 (of_z w64 z)
    → z ≡ y
    → mag z < 9223372036854775808
    → in_signed32 (to_z w64 (of_z w64 z)) ≡ true
    → to_z w32 (of_z w32 n) ≡ y
narrowed {n} {z} {y} is e f h =
    let back : n ≡ y = is ∙ reads_back {z = z} f ∙ e in
    subst (λ (m : ℤ). to_z w32 (of_z w32 m) ≡ y) (sym back) (to_z-of_z w32 y (fits y (judged e f h)))

pub three : {a b c : Bool} → a && b && c ≡ true → (a ≡ true) × (b ≡ true) × (c ≡ true)
three {a} {b} {c} h =
    let (ab, hc) = and_true {a = a && b} {b = c} h in
    let (ha, hb) = and_true {a = a} {b = b} ab in
    (ha, hb, hc)

module _ (s : Solvable) where
  abbrev v : Vertices
  v = s.corners.vertices

  abbrev r : Values
  r = s.values

  pub lacking : Lacks v r → through_number v r ≡ 9
  lacking l = (through_numbers v r).nine.1 (s.corners.in_range, l)

  values : (value_in_range r.r1 ≡ true) × (value_in_range r.r2 ≡ true) × (value_in_range r.r3 ≡ true)
  unfolding values_in_range
  values = three {a = value_in_range r.r1} {b = value_in_range r.r2} {c = value_in_range r.r3} s.in_range

  pub has_plane : in_signed32 (through_c v r) ≡ true
      → in_signed32 (through_a v r) ≡ true
      → in_signed32 (through_b v r) ≡ true
      → through_number v r ≡ 0
  has_plane c a b =
      (through_numbers v r).done.1 (
        s.corners.in_range,
        record {
          first = values.0;
          second = values.1;
          third = values.2;
          area = lt-positive (doubled_area v) s.positive;
          c = c;
          a = a;
          b = b;
        },
      )

  pub passes : {p : Plane} → through_number v r ≡ 0 → p ≡ plane_through v r → PassesThrough v r (through_of (Ok p))
  passes e p = record {
    answers = sym e;
    gives = p ∙ sym (accepted_yes (through_number v r) (plane_through v r) zeros e);
  }
