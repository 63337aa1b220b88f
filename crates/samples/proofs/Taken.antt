-- A column takes, of the samples that exist, those between its two clamped ends; so the ends of these are the ends of the column, and a
-- column whose ends have nothing between them has no sample.
use Prim.Native.Nat.{ℕ, ◌≤◌, ◌<◌}
use mathlib.Core.Path.{◌≡◌, refl, sym, ◌∙◌, ap, ap₂, subst}
use mathlib.Core.Bool.{not, ◌&&◌}
use native.Mathlib.Omega.{arith}
use lib.ListN.{length}
use lib.Dec.{leb, ltb}
use lib.IntN.{ℤ, pos, ◌+ℤ◌}
use borrow.Author.Tests.{leb-true, ltb-true, le-leb, lt-ltb}
use Rattle.ints.proofs.Order.{le_z-before}
use Rattle.rules.proofs.Choices.{and_true, not_leb}
use Rattle.waveform.specs.Panel.{Waveform, first_of, takes, column_samples}
use Rattle.waveform.specs.Members.{Has, Sample}
use Rattle.waveform.proofs.Members.{column_has}
use Rattle.waveform.proofs.Extremes as extremes
use Rattle.std.specs.declared.ops.Range.{Range}
use Rattle.samples.specs.declared.Extremes.{Extremes}
use Rattle.samples.specs.Reached.{Reaches, Between, at, Last, EndsBetween}

module _
    (w : Waveform)
    (x : ℕ)
    {k : Range ℕ}
    (reached : Reaches (length w.samples) w.n w.d x k)
  where
    abbrev from : ℕ
    from = k.start

    abbrev to : ℕ
    to = k.end

    takes-between : (i : ℕ) → i < length w.samples → takes w.n w.d x i ≡ leb from i && ltb i to
    unfolding takes
    takes-between i l =
        ap₂ ◌&&◌ (reached.begins.from i l)
        (le_z-before (pos i) (first_of w.n w.d x +ℤ w.n) ∙ ap not (reached.ends.from i l) ∙ not_leb to i)

    taken : {u : ℤ} (m : Sample w x u) → Between from to m.at
    taken m =
        let (p, q) = and_true {a = leb from m.at} {b = ltb m.at to} (sym (takes-between m.at m.exists) ∙ m.taken) in
        record { not_before = leb-true from m.at p; before = ltb-true m.at to q }

    -- of a sample between the two
    sample : (i : ℕ) → Between from to i → Sample w x (at w.samples i)
    sample i b =
        let l : i < length w.samples = omega (arith, b.before, reached.ends.no_more) in
        record {
          at = i;
          exists = l;
          taken = takes-between i l ∙ ap₂ ◌&&◌ (le-leb from i b.not_before) (lt-ltb i to b.before);
          is = refl;
        }

    pub column-none : to ≤ from → (u : ℤ) → Has u (column_samples w x) → ⊥
    column-none h u m =
        let b = taken ((column_has w x u).0 m) in
        omega (arith, b.not_before, b.before)

    pub column-ends : {r : Extremes} → EndsBetween w.samples from to r → extremes.Ends (column_samples w x) r.largest r.smallest
    column-ends {r} e = record {
      has_high = has e.high;
      has_low = has e.low;
      none_above = λ u m. each e.high u m;
      none_below = λ u m. each e.low u m;
    }
      where
        has : {before : ℤ → ℤ → Type 0} {v : ℤ} → Last before w.samples from to v → Has v (column_samples w x)
        has {v = v} l =
            subst (λ u. Has u (column_samples w x)) l.is
            ((column_has w x (at w.samples l.place)).1 (sample l.place l.between))

        each : {before : ℤ → ℤ → Type 0} {v : ℤ} → Last before w.samples from to v → (u : ℤ) → Has u (column_samples w x) → before u v
        each {before} {v} l u m =
            let s = (column_has w x u).0 m in
            subst (λ z. before z v) s.is (l.after_each s.at (taken s))
