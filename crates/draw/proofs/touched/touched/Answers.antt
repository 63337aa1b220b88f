-- A place outside the span lies before the first touched one or from the past-touched one on.
use Prim.Native.Nat.{ℕ, ◌≤◌, ◌<◌}
use mathlib.Core.Logic.{◌⊎◌, inl, inr, ⊎_elim}
use Rattle.extent.specs.Extent.{Before, Beyond}
use Rattle.draw.proofs.touched.touched.Goals as goal

pub returns : goal.returns
returns c =
    let n = c.args.n in
    let f = c.first_touched in
    let p = c.past_touched in
    let e = c.clipped.ensures in
    let out : (k : ℕ) → (k < f.result) ⊎ (p.result ≤ k) → Before n.a n.b n.c k ⊎ Beyond n.a n.b n.c k =
    λ k. ⊎_elim (λ (l : k < f.result). inl (f.ensures k l)) (λ (l : p.result ≤ k). inr (p.ensures k l)) in
    record {
      ordered = e.ordered;
      limited = e.limited;
      before = λ k l m. out k (e.before k l m);
      beyond = λ k l m. out k (e.beyond k l m);
    }
