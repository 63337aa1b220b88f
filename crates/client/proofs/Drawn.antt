-- A clear and two triangles, from the contracts of the three calls: what is accepted at first stays accepted, since no call changes the
-- memory's length.
use Prim.Native.Nat.{ℕ}
use mathlib.Core.Path.{◌≡◌, refl, sym, ◌∙◌, ap}
use mathlib.Core.Logic.{◌≢◌}
use mathlib.Core.Bool.{Bool, true, false, ◌&&◌}
use mathlib.Core.List.{List}
use native.Mathlib.Omega.{arith}
use native.Mathlib.Decide.{ℕ_discrete}
use lib.ListN.{length}
use borrow.Author.Tests.{eq-eqb, ne_eqb}
use Rattle.rules.specs.declared.Screen.{Screen}
use Rattle.rules.specs.declared.Triangle.{Triangle}
use Rattle.rules.specs.declared.Counts.{Counts}
use Rattle.rules.specs.declared.Refusal.{Refusal}
use Rattle.rules.specs.Answers.{drawn_of}
use Rattle.std.specs.Prelude.{Result, IsOk}
use Rattle.rules.specs.Folds.{choose}
use Rattle.rules.specs.Sizes.{Pixel}
use Rattle.rules.specs.Numbers.{screen_number, row_number, vertices_in_range}
use Rattle.rules.specs.Calls.{accepted, Clears, Draws}
use Rattle.order.specs.Lists.{none, call}
use Rattle.order.proofs.Numbers.{triangle-number, first_row_number}
use Rattle.order.proofs.Client.{clear_length, draw_length, draw_accepted, clear_then_list}
use Rattle.client.specs.Pair.{scene, pair_number, CanPair, PairPainted}

module _ (n : ℕ) (s : Screen) (a b : Triangle) where
  -- row 0's number is the screen's
  pub pair_refused : row_number n s 0 ≢ 0 → pair_number n s a b ≡ row_number n s 0
  unfolding pair_number
  pair_refused h =
      let e : row_number n s 0 ≡ screen_number n s = first_row_number n s in
      rw (ne_eqb (screen_number n s) 0 (λ z. h (e ∙ z))) (sym e)

  -- where that is 0, a triangle's is 0 or 6 by its vertices
  pub pair_numbered : row_number n s 0 ≡ 0
      → pair_number n s a b ≡ choose (vertices_in_range a.vertices && vertices_in_range b.vertices) 0 6
  unfolding pair_number
  pair_numbered h =
      let z : screen_number n s ≡ 0 = sym (first_row_number n s) ∙ h in
      rw (eq-eqb (screen_number n s) 0 z, triangle-number n s a z, triangle-number n s b z)
      (go (vertices_in_range a.vertices) (vertices_in_range b.vertices))
    where
      go : (p q : Bool) → accepted (choose p 0 6) (choose q 0 6) (choose p 0 6) ≡ choose {A = ℕ} (p && q) 0 6
      go true q = refl
      go false q = refl

  pub can_pair : pair_number n s a b ≡ 0 → CanPair n s a b
  can_pair e = go (ℕ_discrete (row_number n s 0) 0)
    where
      both : (p q : Bool) → ◌≡◌ {A = ℕ} (choose (p && q) 0 6) 0 → (p ≡ true) × (q ≡ true)
      both true true h = (refl, refl)
      both true false h = absurd (omega arith)
      both false q h = absurd (omega arith)

      go : Dec (row_number n s 0 ≡ 0) → CanPair n s a b
      go (yes z) =
          let h = both (vertices_in_range a.vertices) (vertices_in_range b.vertices) (sym (pair_numbered z) ∙ e) in
          record { screen = sym (first_row_number n s) ∙ z; first = h.0; second = h.1 }
      go (no z) = absurd (z (sym (pair_refused z) ∙ e))

-- an answer whose number is 0 is no refusal
not_refused : (r : Result Counts Refusal) → (drawn_of r).number ≡ 0 → IsOk r
not_refused r e = grind arith

-- a clear and two calls that draw, one after the other: what is accepted at first stays accepted
module _ {m k : List ℕ} {s : Screen} {a b : Triangle} {p : Pixel} {n : ℕ} (can : CanPair (length m) s a b) (c : Clears m s p n k) where
  cleared : screen_number (length k) s ≡ 0
  cleared = ap (λ i. screen_number i s) (clear_length c) ∙ can.screen

  module _ {l : List ℕ} (r : Result Counts Refusal) (d : Draws k s a (drawn_of r) l) where
    drawn : screen_number (length l) s ≡ 0
    drawn = ap (λ i. screen_number i s) (draw_length d) ∙ cleared

    pub first_drawn : IsOk r
    first_drawn = not_refused r (draw_accepted d cleared can.first)

    module _ {after : List ℕ} (r' : Result Counts Refusal) where
      -- of either triangle
      pub second_drawn : {t : Triangle} → Draws l s t (drawn_of r') after → vertices_in_range t.vertices ≡ true → IsOk r'
      second_drawn d' i = not_refused r' (draw_accepted d' drawn i)

      pub pair_painted : Draws l s b (drawn_of r') after → PairPainted s (scene p a b) m after
      pair_painted d' =
          clear_then_list c (c.answers ∙ can.screen)
          (call d (draw_accepted d cleared can.first) (call d' (draw_accepted d' drawn can.second) none))
