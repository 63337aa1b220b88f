-- No second outcome meets the panel's contract: it settles the number and the count; a refusal leaves the memory as it was, and no other
-- memory has what is painted.
use Prim.Native.Nat.{ℕ}
use mathlib.Core.Path.{◌≡◌, sym, ◌∙◌, ap, ap₂}
use mathlib.Core.List.{List}
use native.Mathlib.Decide.{ℕ_discrete}
use lib.ListN.{length}
use Rattle.rules.specs.declared.Screen.{Screen}
use Rattle.rules.specs.Sizes.{width, height, pixel}
use Rattle.rules.specs.Calls.{accepted}
use Rattle.rules.proofs.Choices.{accepted_no}
use Rattle.rules.proofs.Folds.{pixels_same}
use Rattle.order.proofs.Pointwise.{painted_unique, painted_same, painted_with}
use Rattle.waveform.specs.declared.Panelled.{Panelled}
use Rattle.waveform.specs.Panel.{Waveform, in_panel, number_of, Panels}

pub panels_unique : {m k l : List ℕ} {s : Screen} {w : Waveform} {a b : Panelled}
    → Panels m s w a k
    → Panels m s w b l
    → (a ≡ b) × (k ≡ l)
panels_unique {m} {k} {l} {s} {w} {a} {b} p q = (same, go (ℕ_discrete (number_of (length m) s w) 0))
  where
    same : a ≡ b
    same = λ i. record {
      number = (p.answers ∙ sym q.answers) i;
      pixels = (p.counts ∙ sym q.counts) i;
    }

    go : Dec (number_of (length m) s w ≡ 0) → k ≡ l
    go (yes e) = painted_unique (p.paints e) (q.paints e)
    go (no h) = p.keeps h ∙ sym (q.keeps h)

-- two requests that are judged alike and fill the same pixels in one colour have the same outcomes
panels_alike_counts : (i : ℕ) {j c e : ℕ} → j ≡ i → (j ≡ 0 → c ≡ e) → accepted i e 0 ≡ accepted j c 0
panels_alike_counts i {j} {c} {e} n h = go (ℕ_discrete j 0)
  where
    go : Dec (j ≡ 0) → accepted i e 0 ≡ accepted j c 0
    go (yes z) = ap₂ (λ k a. accepted k a 0) (sym n) (sym (h z))
    go (no z) = accepted_no i e 0 (λ y. z (n ∙ y)) ∙ sym (accepted_no j c 0 z)

module _ (u w : Waveform) (same : u.colour ≡ w.colour) where
  pub panels_alike : {m after : List ℕ} {s : Screen} {a : Panelled}
      → number_of (length m) s w ≡ number_of (length m) s u
      → (number_of (length m) s w ≡ 0 → (x y : ℕ) → in_panel w s x y ≡ in_panel u s x y)
      → Panels m s u a after
      → Panels m s w a after
  panels_alike {m} {s = s} n h q = record {
    answers = q.answers ∙ sym n;
    counts =
        q.counts
        ∙ panels_alike_counts (number_of (length m) s u) n
        (λ e. pixels_same (in_panel w s) (width s.size) (in_panel u s) (height s.size) (λ x y j k. h e x y));
    paints =
        λ e.
        painted_with (λ x y. ap (λ c. pixel c 0) same)
        (painted_same (λ x y j k. sym (h e x y)) (q.paints (sym n ∙ e)));
    keeps = λ z. q.keeps (λ e. z (n ∙ e));
  }
