-- In a row the covered pixels have no gap, said of any triangle and screen: along a row an edge value only rises or only falls.
use Prim.Native.Nat.{ℕ, ◌+◌, ◌-◌, ◌≤◌, ◌<◌}
use mathlib.Core.Path.{◌≡◌, refl, sym, ◌∙◌, subst}
use mathlib.Core.Bool.{Bool, true, false, ◌&&◌}
use native.Mathlib.Omega.{arith}
use lib.Dec.{ltb}
use lib.IntN.{pos}
use lib.Signed.{non_neg, ◌≤ℤ◌}
use borrow.Author.Tests.{lt-ltb, ltb-true}
use Rattle.ints.proofs.Order.{non_neg_true, le_non_neg, ≤ℤ-trans}
use Rattle.rules.specs.declared.Screen.{Screen}
use Rattle.rules.specs.declared.Vertices.{Vertices}
use Rattle.rules.specs.declared.Triangle.{Triangle}
use Rattle.rules.specs.Sizes.{width}
use Rattle.rules.specs.Triangles.{Edge, edge1, edge2, edge3, sample, inside, inside_all, covered, on_screen}
use Rattle.cover.specs.Side.{sided}
use Rattle.rules.proofs.Choices.{and_true}
use Rattle.cover.proofs.Along.{inside_sided, slope, rises, falls}

module _ (e : Edge) (a b c y : ℕ) (h : a ≤ b) (k : b ≤ c) where
  edge_between_lem : inside e (sample a y) ≡ true → inside e (sample c y) ≡ true → inside e (sample b y) ≡ true
  edge_between_lem p q = inside_sided e b y ∙ le_non_neg (sided e b y) (go (non_neg (slope e)) refl)
    where
      go : (s : Bool) → non_neg (slope e) ≡ s → pos 0 ≤ℤ sided e b y
      go true s =
          let i : a + (b - a) ≡ b = omega arith in
          ≤ℤ-trans (non_neg_true (sided e a y) (sym (inside_sided e a y) ∙ p))
          (subst (λ (n : ℕ). sided e a y ≤ℤ sided e n y) i (rises e a (b - a) y s))
      go false s =
          let i : b + (c - b) ≡ c = omega arith in
          ≤ℤ-trans (non_neg_true (sided e c y) (sym (inside_sided e c y) ∙ q))
          (subst (λ (n : ℕ). sided e n y ≤ℤ sided e b y) i (falls e b (c - b) y s))

inside-between : (t : Vertices) (a b c y : ℕ) → a ≤ b → b ≤ c
    → inside_all t (sample a y) ≡ true
    → inside_all t (sample c y) ≡ true
    → inside_all t (sample b y) ≡ true
unfolding inside_all
inside-between t a b c y h k p q =
    let p2 = and_true {a = inside (edge1 t) (sample a y) && inside (edge2 t) (sample a y)} p in
    let q2 = and_true {a = inside (edge1 t) (sample c y) && inside (edge2 t) (sample c y)} q in
    let p1 = and_true {a = inside (edge1 t) (sample a y)} p2.0 in
    let q1 = and_true {a = inside (edge1 t) (sample c y)} q2.0 in
    rw (
      edge_between_lem (edge1 t) a b c y h k p1.0 q1.0,
      edge_between_lem (edge2 t) a b c y h k p1.1 q1.1,
      edge_between_lem (edge3 t) a b c y h k p2.1 q2.1,
    )

pub unbroken : (t : Triangle) (s : Screen) (a b c y : ℕ) → a ≤ b → b ≤ c
    → covered t s a y ≡ true
    → covered t s c y ≡ true
    → covered t s b y ≡ true
unfolding covered
unbroken t s a b c y h k p q =
    let p3 = and_true {a = on_screen s a y} p in
    let q3 = and_true {a = on_screen s c y} q in
    let o = and_true {a = ltb c (width s.size)} q3.0 in
    let w : b < width s.size = omega (arith, ltb-true c (width s.size) o.0) in
    rw (lt-ltb b (width s.size) w, o.1, inside-between t.vertices a b c y h k p3.1 q3.1)
