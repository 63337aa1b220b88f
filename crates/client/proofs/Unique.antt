-- No second outcome meets the pair's contract: a refusal leaves the memory as it was, and no other memory has what is painted.
use Prim.Native.Nat.{ℕ}
use mathlib.Core.Path.{◌≡◌, sym, ◌∙◌}
use mathlib.Core.List.{List}
use native.Mathlib.Omega.{arith}
use native.Mathlib.Decide.{ℕ_discrete}
use Rattle.std.specs.Prelude.{Result}
use Rattle.rules.specs.declared.Refusal.{Refusal}
use Rattle.rules.specs.declared.Screen.{Screen}
use Rattle.rules.specs.Answers.{number_of}
use Rattle.order.proofs.Pointwise.{painted_unique}
use Rattle.client.specs.Pair.{Scene, Pairs}

pub pairs_unique : {m k l : List ℕ} {s : Screen} {scene : Scene} {i j : ℕ}
    → Pairs m s scene i k
    → Pairs m s scene j l
    → (i ≡ j) × (k ≡ l)
pairs_unique {k = k} {l} {i = i} {j} p q = (same, go (ℕ_discrete i 0))
  where
    same : i ≡ j
    same = p.answers ∙ sym q.answers

    go : Dec (i ≡ 0) → k ≡ l
    go (yes e) = painted_unique (p.paints e) (q.paints (sym same ∙ e))
    go (no h) = p.keeps h ∙ sym (q.keeps (λ e. h (same ∙ e)))

-- and the number tells which answer it was
same_answer : (p q : Result (Unit {0}) Refusal) → number_of p ≡ number_of q → p ≡ q
same_answer p q e = grind arith

pub pair_unique : {m k l : List ℕ} {s : Screen} {scene : Scene} (p q : Result (Unit {0}) Refusal)
    → Pairs m s scene (number_of p) k
    → Pairs m s scene (number_of q) l
    → (p ≡ q) × (k ≡ l)
pair_unique p q a b = let e = pairs_unique a b in (same_answer p q e.0, e.1)
