-- A call that answers no number is Ok: so are the two triangles of a bar. And the two outcomes of a panel: refused, with 0 pixels and the
-- memory as it was; and drawn.
use Prim.Native.Nat.{ℕ}
use mathlib.Core.Path.{◌≡◌, refl, sym, ◌∙◌, ap, subst}
use mathlib.Core.Logic.{◌≢◌}
use mathlib.Core.Bool.{Bool, false, true}
use mathlib.Core.List.{List}
use native.Mathlib.Omega.{arith}
use lib.ListN.{length}
use Rattle.std.specs.Prelude.{Result, Ok, Err}
use Rattle.std.specs.Result.{IsOk}
use Rattle.rules.specs.declared.Counts.{Counts}
use Rattle.rules.specs.declared.Drawn.{Drawn}
use Rattle.rules.specs.declared.Refusal.{Refusal}
use Rattle.rules.specs.declared.Refusal.TheVariants.{ProgramTooLong, WrongDataMemory, RamTooLong, IllFormedState, UnsoundScreen}
use Rattle.rules.specs.declared.Refusal.TheVariants.{VertexOutOfRange, EdgeTooLarge, NoSuchRow, NoPlane, PanelOutOfRange}
use Rattle.rules.specs.declared.Screen.{Screen}
use Rattle.rules.specs.declared.Triangle.{Triangle}
use Rattle.rules.specs.Answers.{refusal_number, drawn_of}
use Rattle.rules.specs.Calls.{Draws}
use Rattle.rules.specs.Folds.{choose}
use Rattle.rules.specs.Numbers.{screen_number}
use Rattle.reader.specs.Rows.{Checks}
use Rattle.order.proofs.Numbers.{first_row_number}
use Rattle.waveform.proofs.Numbers.{screen-first, ten_after, panel_accepted}
use Rattle.rules.proofs.Choices.{accepted_no, accepted_yes}
use Rattle.order.proofs.Client.{draw_accepted, draw_length}
use Rattle.waveform.specs.Answers.{panelled_of}
use Rattle.waveform.specs.Panel.{Waveform, good_waveform, panel_pixels, number_of, Panels}
use Rattle.waveform.specs.Bars.{Bar, upper, lower, BarFits}
use Rattle.waveform.proofs.Bars.{upper_in_range, lower_in_range}
use Rattle.panel.specs.Columns.{PanelDrawn}

pub some_number : (e : Refusal) → refusal_number e ≢ 0
some_number ProgramTooLong z = omega arith
some_number WrongDataMemory z = omega arith
some_number RamTooLong z = omega arith
some_number IllFormedState z = omega arith
some_number UnsoundScreen z = omega arith
some_number VertexOutOfRange z = omega arith
some_number EdgeTooLarge z = omega arith
some_number NoSuchRow z = omega arith
some_number NoPlane z = omega arith
some_number PanelOutOfRange z = omega arith

-- a triangle that is drawn, as the callee makes it

drawn_ok : (r : Result Counts Refusal) → (drawn_of r).number ≡ 0 → IsOk r
drawn_ok (Ok c) e = refl
drawn_ok (Err e) z = absurd (some_number e z)

module _ {m k : List ℕ} {s : Screen} {b : Bar} {t : Triangle} (r : Result Counts Refusal) where
  pub upper_ok : BarFits (length m) s b → t ≡ upper b → Draws m s t (drawn_of r) k → IsOk r
  upper_ok f e d =
      let u : Draws m s (upper b) (drawn_of r) k = subst (λ (t : Triangle). Draws m s t (drawn_of r) k) e d in
      drawn_ok r (draw_accepted u f.screen (upper_in_range f))

  pub lower_ok : BarFits (length m) s b → t ≡ lower b → Draws m s t (drawn_of r) k → IsOk r
  lower_ok f e d =
      let u : Draws m s (lower b) (drawn_of r) k = subst (λ (t : Triangle). Draws m s t (drawn_of r) k) e d in
      drawn_ok r (draw_accepted u f.screen (lower_in_range f))

-- after a drawing the bar fits as before
pub fits_after : {m k : List ℕ} {s : Screen} {b : Bar} {t : Triangle} {r : Drawn} → BarFits (length m) s b → Draws m s t r k
    → BarFits (length k) s b
fits_after {s = s} f d = record {
  screen = ap (λ (i : ℕ). screen_number i s) (draw_length d) ∙ f.screen;
  across = f.across;
  ordered = f.ordered;
  down = f.down;
  half = f.half;
}

module _ {m : List ℕ} {s : Screen} (w : Waveform) where
  pub panel_refused : (e : Refusal) → refusal_number e ≡ number_of (length m) s w → Panels m s w (panelled_of (Err e)) m
  panel_refused e is =
      let other : number_of (length m) s w ≢ 0 = λ z. some_number e (is ∙ z) in
      record {
        answers = is;
        counts = sym (accepted_no (number_of (length m) s w) (panel_pixels w s) 0 other);
        paints = λ z. absurd (other z);
        keeps = λ z. refl;
      }

  pub panel_drawn : {count : ℕ} {after : List ℕ} → number_of (length m) s w ≡ 0 → PanelDrawn s w m count after
      → Panels m s w (panelled_of (Ok count)) after
  panel_drawn e d = record {
    answers = sym e;
    counts = d.counts ∙ sym (accepted_yes (number_of (length m) s w) (panel_pixels w s) 0 e);
    paints = λ z. d.paints;
    keeps = λ z. absurd (z e);
  }

-- the three ways out of a panel: the screen is refused, as its row 0 is; the samples, n or d; and drawn

pub refused_by_screen : (m : List ℕ) (s : Screen) (w : Waveform) (e : Refusal)
    → Checks (length m) s 0 (refusal_number e)
    → Panels m s w (panelled_of (Err e)) m
refused_by_screen m s w e h =
    let is : refusal_number e ≡ screen_number (length m) s = h.answers ∙ first_row_number (length m) s in
    panel_refused {m = m} {s = s} w e (is ∙ sym (screen-first (length m) s (length w.samples) w.n w.d (λ z. some_number e (is ∙ z))))

pub screen_passes : {ram_length : ℕ} {s : Screen} → Checks ram_length s 0 0 → screen_number ram_length s ≡ 0
screen_passes {ram_length} {s} h = sym (h.answers ∙ first_row_number ram_length s)

module _ (m : List ℕ) (s : Screen) (w : Waveform) (h : Checks (length m) s 0 0) where
  screen : screen_number (length m) s ≡ 0
  screen = screen_passes h

  pub refused_by_ten : good_waveform (length w.samples) w.n w.d ≡ false → Panels m s w (panelled_of (Err PanelOutOfRange)) m
  refused_by_ten k =
      panel_refused {m = m} {s = s} w PanelOutOfRange
      (sym (ten_after (length m) s (length w.samples) w.n w.d screen ∙ ap (λ (b : Bool). choose {A = ℕ} b 0 10) k))

  pub all_drawn : {count : ℕ} {after : List ℕ} → good_waveform (length w.samples) w.n w.d ≡ true → PanelDrawn s w m count after
      → Panels m s w (panelled_of (Ok count)) after
  all_drawn k = panel_drawn {m = m} {s = s} w ((panel_accepted (length m) s (length w.samples) w.n w.d).1 (screen, k))
