-- Drawing a list: a list and then another is the joined list, and each pixel's cell is merged with each triangle in turn.
use Prim.Native.Nat.{ℕ}
use mathlib.Core.Path.{◌≡◌, refl, ◌∙◌, ap}
use mathlib.Core.List.{List, [], ◌∷◌, ◌++◌}
use lib.ListN.{length}
use Rattle.rules.specs.declared.Screen.{Screen}
use Rattle.rules.specs.declared.Triangle.{Triangle}
use Rattle.rules.specs.Sizes.{height}
use Rattle.rules.specs.Triangles.{drawn}
use Rattle.rules.specs.Lists.{drawn_all}
use Rattle.rules.proofs.Pixels.{Sound, Cell}
use Rattle.rules.proofs.Memory.{Touched, Rows}
use Rattle.rules.proofs.Drawing.{merged, length-drawn, touched_drawn}

pub drawn_all-append : (a b : List Triangle) (s : Screen) (m : List ℕ) → drawn_all (a ++ b) s m ≡ drawn_all b s (drawn_all a s m)
unfolding drawn_all
drawn_all-append [] b s m = refl
drawn_all-append (t ∷ a) b s m = drawn_all-append a b s (drawn t s m)

pub length-drawn_all : (list : List Triangle) (s : Screen) (m : List ℕ) → length (drawn_all list s m) ≡ length m
unfolding drawn_all
length-drawn_all [] s m = refl
length-drawn_all (t ∷ list) s m = length-drawn_all list s (drawn t s m) ∙ length-drawn t s m

-- what the list makes of a pixel's cell
unfoldable pub merged_all : List Triangle → Screen → ℕ → ℕ → Cell → Cell
merged_all [] s x y c = c
merged_all (t ∷ list) s x y c = merged_all list s x y (merged t s x y c)

module _ {n : ℕ} {s : Screen} (k : Sound n s) where
  pub touched_drawn_all : (list : List Triangle) (m : List ℕ)
      → length m ≡ n
      → Touched s (merged_all list s) (Rows s (height s.size)) m (drawn_all list s m)
  unfolding drawn_all merged_all
  touched_drawn_all [] m l = record { same_length = refl; changed = λ p d. refl; kept = λ p d. refl; beyond = λ o. refl }
  touched_drawn_all (t ∷ list) m l =
      let d = touched_drawn k t m l in
      let e = touched_drawn_all list (drawn t s m) (d.same_length ∙ l) in
      record {
        same_length = e.same_length ∙ d.same_length;
        changed = λ {x} {y} p r. e.changed p r ∙ ap (merged_all list s x y) (d.changed p r);
        kept = λ p r. e.kept p r ∙ d.kept p r;
        beyond = λ o. e.beyond o ∙ d.beyond o;
      }
