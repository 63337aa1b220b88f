-- No second outcome meets a call's promise: the promise gives the number, the counts and the memory as values of the inputs.
use Prim.Native.Nat.{ℕ}
use mathlib.Core.Path.{◌≡◌, sym, ◌∙◌}
use mathlib.Core.List.{List}
use Rattle.rules.specs.declared.Screen.{Screen}
use Rattle.rules.specs.declared.Triangle.{Triangle}
use Rattle.rules.specs.declared.Drawn.{Drawn}
use Rattle.rules.specs.Sizes.{Pixel}
use Rattle.rules.specs.Calls.{Clears, Draws}

pub clears_unique : {m k k' : List ℕ} {s : Screen} {p : Pixel} {n n' : ℕ}
    → Clears m s p n k
    → Clears m s p n' k'
    → (n ≡ n') × (k ≡ k')
clears_unique c d = (c.answers ∙ sym d.answers, c.leaves ∙ sym d.leaves)

pub draws_unique : {m k k' : List ℕ} {s : Screen} {t : Triangle} {r r' : Drawn}
    → Draws m s t r k
    → Draws m s t r' k'
    → (r ≡ r') × (k ≡ k')
draws_unique {r = r} {r' = r'} p q = (same, p.leaves ∙ sym q.leaves)
  where
    same : r ≡ r'
    same = λ i. record {
      number = (p.answers ∙ sym q.answers) i;
      covered = (p.covers ∙ sym q.covers) i;
      written = (p.writes ∙ sym q.writes) i;
    }
