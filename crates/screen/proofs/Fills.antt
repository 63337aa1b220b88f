-- Filling both areas, one after the other, is clearing pixel by pixel. Rows of columns are one fold; and a depth's half-word
-- is apart from every colour's, so the passes of the two fills can be taken in pairs.
use Prim.Native.Nat.{ℕ, ◌+◌, ◌*◌, ◌-◌, ◌/◌, ◌%◌, ◌≤◌, ◌<◌}
use mathlib.Core.Path.{◌≡◌, refl, sym, ◌∙◌, ap}
use mathlib.Core.Logic.{◌⊎◌, inl, inr}
use mathlib.Core.Bool.{true}
use mathlib.Core.List.{List}
use native.Mathlib.Omega.{arith}
use native.Mathlib.Nat.{mul_comm}
use lib.ListN.{length}
use Rattle.rules.specs.declared.Screen.{Screen}
use Rattle.rules.specs.Folds.{upto}
use Rattle.ram.specs.Ram.{store_half}
use Rattle.rules.specs.Sizes.{width, height, area, sound, pixel, put_pixel}
use Rattle.rules.specs.Numbers.{screen_number}
use Rattle.rules.specs.Calls.{cleared, Clears}
use Rattle.rules.proofs.Choices.{accepted_no, accepted_yes}
use Rattle.rules.proofs.Folds.{upto_more, upto-keeps}
use Rattle.ram.proofs.Halves.{Apart, length-store_half, store_half-comm}
use Rattle.rules.proofs.Strips.{Sound, sound_facts, colour_in_area, depth_in_area}
use Rattle.screen.specs.Fills.{filled}
use Rattle.screen.proofs.Pairs.{upto_pairs, upto_rows}

pub filled_none : (start v : ℕ) (m : List ℕ) → m ≡ filled start v 0 m
unfolding filled upto
filled_none start v m = refl

pub filled_more : (start v i : ℕ) (m : List ℕ) → store_half (filled start v i m) (start + i * 2) v ≡ filled start v (i + 1) m
unfolding filled
filled_more start v i m = sym (upto_more (λ j b. store_half b (start + j * 2) v) i m)

-- an area filled up to the half-word at `a`
abbrev pub filled_to : ℕ → ℕ → ℕ → List ℕ → List ℕ
filled_to start v a m = filled start v ((a - start) / 2) m

pub filled_to_none : (start v : ℕ) (m : List ℕ) → m ≡ filled_to start v start m
unfolding filled upto
filled_to_none start v m =
    let e : (start - start) / 2 ≡ 0 = omega arith in
    rw e

pub filled_to_more : (start v a : ℕ) (m : List ℕ) → start ≤ a → (a - start) % 2 ≡ 0
    → store_half (filled_to start v a m) a v ≡ filled_to start v (a + 2) m
unfolding filled
filled_to_more start v a m l e =
    let i : ℕ = (a - start) / 2 in
    let at : start + i * 2 ≡ a = omega arith in
    let next : (a + 2 - start) / 2 ≡ i + 1 = omega arith in
    ap (λ b. store_half (upto step i m) b v) (sym at)
    ∙ sym (upto_more step i m)
    ∙ ap (λ k. upto step k m) (sym next)
  where
    step : ℕ → List ℕ → List ℕ
    step j b = store_half b (start + j * 2) v

pub length-filled : (start v count : ℕ) (m : List ℕ) → length (filled start v count m) ≡ length m
unfolding filled
length-filled start v count m =
    upto-keeps (λ j b. store_half b (start + j * 2) v) (λ b. length b ≡ length m) count m
    (λ j b l e. length-store_half b (start + j * 2) v ∙ e)
    refl

abbrev pixel_count : Screen → ℕ
pixel_count s = width s.size * height s.size

module _ {n : ℕ} {s : Screen} (k : Sound n s) (c d : ℕ) where
  apart : (i j : ℕ) → i < pixel_count s → j < pixel_count s → Apart (s.colour + j * 2) (s.depth + i * 2)
  apart i j p q = go k.laid.areas_apart_lem
    where
      go : (s.colour + area s.size ≤ s.depth) ⊎ (s.depth + area s.size ≤ s.colour)
          → Apart (s.colour + j * 2) (s.depth + i * 2)
      go (inl h) = inl (omega arith)
      go (inr h) = inr (omega arith)

  pub two-fills : (m : List ℕ) → filled s.depth d (pixel_count s) (filled s.colour c (pixel_count s) m) ≡ cleared s c d m
  unfolding filled cleared put_pixel
  two-fills m =
      upto_pairs
      (λ j b. store_half b (s.colour + j * 2) c)
      (λ i b. store_half b (s.depth + i * 2) d)
      (pixel_count s)
      m
      (λ i j b p q. store_half-comm b (s.colour + j * 2) c (s.depth + i * 2) d (apart i j p q))
      ∙ ap (λ k. upto both k m) (mul_comm (width s.size) (height s.size))
      ∙ sym (upto_rows both (width s.size) (height s.size) m)
      ∙ sym (λ i. upto (λ y. upto (λ x b. store_half (store_half b (colour_in_area s x y i) c) (depth_in_area s x y i) d)
      (width s.size)) (height s.size) m)
    where
      both : ℕ → List ℕ → List ℕ
      both i b = store_half (store_half b (s.colour + i * 2) c) (s.depth + i * 2) d

  pub both_filled : (m : List ℕ) {m₁ m₂ : List ℕ} {count : ℕ} → count ≡ pixel_count s
      → m₁ ≡ filled s.colour c count m → m₂ ≡ filled s.depth d count m₁ → m₂ ≡ cleared s c d m
  both_filled m e p q = rw (q, p, e) (two-fills m)

-- one area filled, and then the other
pub areas_filled : (s : Screen) (c d : ℕ) (m : List ℕ) {count : ℕ} {m₁ m₂ : List ℕ} → sound (length m) s ≡ true → count ≡ pixel_count s
    → m₁ ≡ filled s.colour c count m → m₂ ≡ filled s.depth d count m₁ → cleared s c d m ≡ m₂
areas_filled s c d m h e p q = sym (rw (q, p, e) (two-fills (sound_facts h) c d m))

module _ (m : List ℕ) (s : Screen) (c d : ℕ) (r : ℕ) (answers : r ≡ screen_number (length m) s) where
  pub refused : ¬ (r ≡ 0) → Clears m s (pixel c d) r m
  refused z = record { answers = answers; leaves = sym (accepted_no _ (cleared s c d m) m (λ p. z (answers ∙ p))) }

  pub done : r ≡ 0 → (after : List ℕ) → after ≡ cleared s c d m → Clears m s (pixel c d) 0 after
  done z after e =
      let zero : screen_number (length m) s ≡ 0 = sym answers ∙ z in
      record { answers = sym zero; leaves = e ∙ sym (accepted_yes _ (cleared s c d m) m zero) }
