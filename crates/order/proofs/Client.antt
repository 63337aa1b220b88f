-- From the calls' contracts alone: what every pixel holds after a call, which calls are accepted, and that lengths and a sound screen stay,
-- so that a client chains calls of any number. The last theorem is such a chain, a clear and a list of triangles.
use Prim.Native.Nat.{ℕ}
use mathlib.Core.Path.{◌≡◌, sym, ◌∙◌, ap, subst}
use mathlib.Core.Logic.{◌≢◌}
use mathlib.Core.Bool.{true}
use mathlib.Core.List.{List}
use native.Mathlib.Decide.{ℕ_discrete}
use lib.ListN.{length}
use Rattle.rules.specs.declared.Screen.{Screen}
use Rattle.rules.specs.declared.Triangle.{Triangle}
use Rattle.rules.specs.declared.Drawn.{Drawn}
use Rattle.rules.specs.Folds.{choose}
use Rattle.rules.specs.Sizes.{sound, Pixel}
use Rattle.rules.specs.Triangles.{written, triangle_pixel, drawn, covered_pixels, written_pixels}
use Rattle.rules.specs.Numbers.{vertices_in_range, screen_number, triangle_number}
use Rattle.rules.specs.Calls.{Clears, Draws, accepted, cleared}
use Rattle.rules.proofs.Choices.{accepted_no, accepted_yes}
use Rattle.order.specs.Pointwise.{Painted}
use Rattle.order.specs.Lists.{after_list, DrawsAll}
use Rattle.order.proofs.Numbers.{screen-accepted, triangle-number}
use Rattle.order.proofs.Order.{accepted-sound, accepted-drawn}
use Rattle.order.proofs.Pointwise.{drawn_pointwise, cleared_pointwise}
use Rattle.order.proofs.Lists.{list_paints, calls_drawn}

module _ {m after : List ℕ} {s : Screen} {t : Triangle} {r : Drawn} (d : Draws m s t r after) where
  pub draw_refused : r.number ≢ 0 → after ≡ m
  draw_refused h = d.leaves ∙ accepted_no (triangle_number (length m) s t) (drawn t s m) m (λ e. h (d.answers ∙ e))

  pub draw_paints : r.number ≡ 0 → Painted s (written t s m) (triangle_pixel t) m after
  draw_paints e =
      let z : triangle_number (length m) s t ≡ 0 = sym d.answers ∙ e in
      subst (Painted s (written t s m) (triangle_pixel t) m) (sym (accepted-drawn d z))
      (drawn_pointwise s m (accepted-sound (length m) s t z) t)

  pub draw_sound : r.number ≡ 0 → sound (length after) s ≡ true
  draw_sound e =
      subst (λ (n : ℕ). sound n s ≡ true) (sym (draw_paints e).same_length)
      (accepted-sound (length m) s t (sym d.answers ∙ e))

  pub draw_length : length after ≡ length m
  draw_length = go (ℕ_discrete r.number 0)
    where
      go : Dec (r.number ≡ 0) → length after ≡ length m
      go (yes e) = (draw_paints e).same_length
      go (no h) = ap length (draw_refused h)

  pub draw_covers : r.number ≡ 0 → r.covered ≡ covered_pixels t s
  draw_covers e = d.covers ∙ accepted_yes (triangle_number (length m) s t) (covered_pixels t s) 0 (sym d.answers ∙ e)

  pub draw_writes : r.number ≡ 0 → r.written ≡ written_pixels t s m
  draw_writes e = d.writes ∙ accepted_yes (triangle_number (length m) s t) (written_pixels t s m) 0 (sym d.answers ∙ e)

  -- on a screen that a clear accepts, a triangle with its vertices in range is drawn
  pub draw_accepted : screen_number (length m) s ≡ 0 → vertices_in_range t.vertices ≡ true → r.number ≡ 0
  draw_accepted z v = d.answers ∙ triangle-number (length m) s t z ∙ ap (λ b. choose b 0 6) v

module _ {m after : List ℕ} {s : Screen} {p : Pixel} {n : ℕ} (d : Clears m s p n after) where
  pub clear_refused : n ≢ 0 → after ≡ m
  clear_refused h = d.leaves ∙ accepted_no (screen_number (length m) s) (cleared s p.colour p.depth m) m (λ e. h (d.answers ∙ e))

  pub clear_paints : n ≡ 0 → Painted s (λ x y. true) (λ x y. p) m after
  clear_paints e =
      let z : screen_number (length m) s ≡ 0 = sym d.answers ∙ e in
      subst (Painted s (λ x y. true) (λ x y. p) m)
      (sym (d.leaves ∙ ap (λ k. accepted k (cleared s p.colour p.depth m) m) z))
      (cleared_pointwise s m ((screen-accepted (length m) s).0 z).1 p)

  pub clear_keeps_sound : n ≡ 0 → sound (length after) s ≡ true
  clear_keeps_sound e =
      subst (λ (k : ℕ). sound k s ≡ true) (sym (clear_paints e).same_length)
      ((screen-accepted (length m) s).0 (sym d.answers ∙ e)).1

  pub clear_length : length after ≡ length m
  clear_length = go (ℕ_discrete n 0)
    where
      go : Dec (n ≡ 0) → length after ≡ length m
      go (yes e) = (clear_paints e).same_length
      go (no h) = ap length (clear_refused h)

-- a clear, then a list of triangles: what every pixel holds, byte by byte, and that every other byte is as it was
pub clear_then_list : {m k after : List ℕ} {s : Screen} {p : Pixel} {n : ℕ} {list : List Triangle}
    → Clears m s p n k
    → n ≡ 0
    → DrawsAll s list k after
    → Painted s (λ x y. true) (λ x y. after_list list s x y p) m after
clear_then_list {m} {k} {s = s} {list = list} c e d =
    subst (Painted s (λ x y. true) _ m) (sym (calls_drawn d)) (list_paints s k (clear_keeps_sound c e) list (clear_paints c e))
