-- The loop over the pixels of a word of 64 bits: what holds after k of them, that it holds at the first one, and that one pixel more keeps
-- it. As many are covered as the word has leading ones; a covered one is written where the code's test of the depth says so, and after
-- the last one there is none.
use Prim.Native.Nat.{ℕ, ◌+◌, ◌*◌, ◌-◌, ◌%◌, ◌^◌, ◌≤◌, ◌<◌}
use mathlib.Core.Path.{◌≡◌, refl, sym, ◌∙◌, ap}
use mathlib.Core.Bool.{Bool, true, false}
use mathlib.Core.List.{List}
use native.Mathlib.Nat.{add-zero}
use native.Mathlib.Omega.{arith}
use mir.Syntax.{w64}
use lib.ListN.{length}
use Rattle.std.specs.Int.{leading_ones}
use Rattle.rules.specs.declared.Screen.{Screen}
use Rattle.rules.specs.Folds.{bit, how_many}
use Rattle.rules.specs.Sizes.{colour_at, depth_at}
use Rattle.rules.proofs.Folds.{upto-none, upto_more, upto_add, upto_still, how_many-none, how_many_more, how_many-add, how_many-le}
use Rattle.rules.proofs.Strips.{colour_in_area, depth_in_area}
use Rattle.rules.proofs.Pixels.{Sound, On, sound_facts}
use Rattle.masks.proofs.Leading.{Leads, leads_same, leads_after}
use Rattle.cover.proofs.Unbroken.{unbroken}
use Rattle.planes.specs.declared.Tints.{Tints}
use Rattle.planes.specs.Planes.{tints_at, tint_steps, tints_moved}
use Rattle.planes.proofs.Affine.{tints_right}
use Rattle.rows.specs.declared.Line.{Line}
use Rattle.rows.specs.Lines.{covered_in, written_in, drawn_in, Writing}
use Rattle.rows.specs.Pixels.{PixelDone, chunk_at, chunk_from, WordAsked, WordDone}
use Rattle.rows.proofs.Covered.{pixel-counts, pixel-leaves}
use Rattle.rows.proofs.Stretch.{stretch, length_stretch, covered_on, not_written, pixel_still, written_stretch}

-- the half-words of a row stand side by side
module _ (s : Screen) (x y i : ℕ) {a : ℕ} where
  pub colour-from : a ≡ colour_at s x y → a + 2 * i ≡ colour_at s (x + i) y
  colour-from h = omega (arith, colour_in_area s x y, colour_in_area s (x + i) y)

  pub depth-from : a ≡ depth_at s x y → a + 2 * i ≡ depth_at s (x + i) y
  depth-from h = omega (arith, depth_in_area s x y, depth_in_area s (x + i) y)

-- the pixel that a pass is about: how many stand before it, and its tints
pub record Next : Type 0 where
  pub past : ℕ
  pub tints : Tints

abbrev pub next : ℕ → Tints → Next
next past tints = record { past = past; tints = tints }

pub record Pass (l : Line) (x : ℕ) (w₀ w : Writing) (n : Next) : Type 0 where
  pub in_chunk : n.past ≤ chunk_from x
  pub is_tints : n.tints ≡ tints_at l.triangle (x + n.past) l.row
  pub is_memory : w.ram ≡ stretch l x n.past w₀.ram
  pub is_written : w.count ≡ w₀.count + how_many (λ i. written_in l w₀.ram (x + i)) n.past

-- so many pixels from x on are covered, and the next of the chunk is not
abbrev pub Leading : Line → ℕ → ℕ → Type 0
Leading l x z = Leads (λ k. covered_in l (x + k)) (chunk_from x) z

module _ {l : Line} {x wide : ℕ} {w₀ : Writing} (q : WordAsked l x wide w₀) where
  facts : Sound (length w₀.ram) l.screen
  facts = sound_facts q.is_sound

  -- the columns before x are shifted out
  pub leading : {z : ℕ} → z ≡ leading_ones w64 (wide * 2 ^ (x % 16) % 2 ^ 64) → Leading l x z
  leading e =
      leads_same (λ k. let i : chunk_at x + (x % 16 + k) ≡ x + k = omega arith in ap (covered_in l) i)
      (leads_after (λ k. covered_in l (chunk_at x + k)) (x % 16) (omega arith) (ap (λ (n : ℕ). n * 2 ^ (x % 16) % 2 ^ 64) q.says) e)

  pub pass_first : {v : Tints} → v ≡ tints_at l.triangle x l.row → Pass l x w₀ w₀ (next 0 v)
  pass_first e =
      record {
        in_chunk = omega arith;
        is_tints = e ∙ ap (λ (n : ℕ). tints_at l.triangle n l.row) (sym (add-zero x));
        is_memory = sym (upto-none (λ k. drawn_in l (x + k)) w₀.ram);
        is_written = omega (arith, how_many-none (λ i. written_in l w₀.ram (x + i)) 0 (λ i h. absurd (omega arith)));
      }

  module _ {w : Writing} {k : ℕ} {v : Tints} (u : Pass l x w₀ w (next k v)) where
    pub length_now : length w.ram ≡ length w₀.ram
    length_now = ap length u.is_memory ∙ length_stretch l x k w₀.ram

    -- after the leading ones no pixel of the chunk is left: a row's covered pixels have no gap
    module _ (d : Leading l x k) where
      none_left : (i : ℕ) → i < chunk_from x - k → covered_in l (x + (k + i)) ≡ false
      none_left i j = go (covered_in l (x + (k + i))) refl
        where
          no_gap : covered_in l (x + (k + i)) ≡ true → covered_in l (x + k) ≡ true
          no_gap = unbroken l.triangle l.screen x (x + k) (x + (k + i)) l.row (omega arith) (omega arith) q.begins

          go : (b : Bool) → covered_in l (x + (k + i)) ≡ b → covered_in l (x + (k + i)) ≡ false
          go true e = e ∙ sym (sym (d.stops (omega arith)) ∙ no_gap e)
          go false e = e

      pub pass_last : WordDone l x w₀ w
      pass_last =
          let n = chunk_from x in
          let m = w₀.ram in
          let f : ℕ → Bool = λ i. written_in l m (x + i) in
          let e : k + (n - k) ≡ n = omega (arith, u.in_chunk) in
          record {
            counts =
                omega (
                  arith,
                  u.is_written,
                  ap (how_many f) e,
                  how_many-add f k (n - k),
                  how_many-none (λ i. f (k + i)) (n - k) (λ i j. not_written l m (x + (k + i)) (none_left i j)),
                );
            leaves =
                u.is_memory
                ∙ sym (ap (λ (i : ℕ). stretch l x i m) (sym e)
                ∙ upto_add (λ i. drawn_in l (x + i)) k (n - k) m
                ∙ upto_still (λ i. drawn_in l (x + (k + i))) (n - k) (stretch l x k m)
                (λ i j. pixel_still l (x + (k + i)) (stretch l x k m) (none_left i j)));
          }

    -- before their end, pixel k is covered
    module _ {z : ℕ} (d : Leading l x z) (h : k < z) where
      pub some_left : k < chunk_from x
      some_left = omega (arith, d.within)

      here : covered_in l (x + k) ≡ true
      here = d.has k h

      pub lies_on_screen : On l.screen (x + k) l.row
      lies_on_screen = covered_on l here

      pub few-written : w.count < 4294967295
      few-written = omega (arith, u.is_written, how_many-le (λ i. written_in l w₀.ram (x + i)) k, q.room, some_left)

      pub pass_more : {w' : Writing} {v' : Tints}
          → PixelDone (colour_at l.screen (x + k) l.row) (depth_at l.screen (x + k) l.row) v w w'
          → v' ≡ tints_moved v (tint_steps l.triangle)
          → Pass l x w₀ w' (next (k + 1) v')
      pass_more d e =
          let t = l.triangle in
          let i : x + k + 1 ≡ x + (k + 1) = omega arith in
          record {
            in_chunk = omega (arith, some_left);
            is_tints =
                e
                ∙ ap (λ (z : Tints). tints_moved z (tint_steps t)) u.is_tints
                ∙ tints_right t (x + k) l.row
                ∙ ap (λ (n : ℕ). tints_at t n l.row) i;
            is_memory =
                pixel-leaves l (x + k) facts here u.is_tints d
                ∙ ap (drawn_in l (x + k)) u.is_memory
                ∙ sym (upto_more (λ j. drawn_in l (x + j)) k w₀.ram);
            is_written =
                let b : bit (written_in l w.ram (x + k)) ≡ bit (written_in l w₀.ram (x + k)) =
                ap bit
                (ap (λ (n : List ℕ). written_in l n (x + k)) u.is_memory
                ∙ written_stretch l facts w₀.ram refl x k k lies_on_screen (omega arith)) in
                omega (
                  arith,
                  pixel-counts l (x + k) facts here u.is_tints d,
                  u.is_written,
                  how_many_more (λ j. written_in l w₀.ram (x + j)) k,
                );
          }
