-- Laws of loadWord and storeWord: what is stored is read back, and words with no byte in common are independent. A word is two
-- half-words, so each law is the law of one half-word, twice.
use Prim.Native.Nat.{ℕ, ◌+◌, ◌*◌, ◌/◌, ◌%◌, ◌≤◌, ◌<◌}
use mathlib.Core.Path.{◌≡◌, ◌∙◌, ap₂}
use mathlib.Core.Logic.{◌⊎◌, inl, inr, ⊎_elim}
use mathlib.Core.List.{List}
use native.Mathlib.Omega.{arith}
use lib.ListN.{length, get_or}
use Rattle.ram.specs.Ram.{store_half, load_word, store_word}
use Rattle.ram.proofs.Halves.{length-store_half, half_stored_same, half_stored_other, byte_stored_other}

module _ (m : List ℕ) (a v : ℕ) where
  pub length-store_word : length (store_word m a v) ≡ length m
  unfolding store_word
  length-store_word = length-store_half (store_half m a (v / 65536)) (a + 2) (v % 65536) ∙ length-store_half m a (v / 65536)

  pub word_stored_same : a + 3 < length m → load_word (store_word m a v) a ≡ v
  unfolding load_word store_word
  word_stored_same h =
      let n = store_half m a (v / 65536) in
      let k : length n ≡ length m = length-store_half m a (v / 65536) in
      ap₂ (λ (x y : ℕ). x * 65536 + y)
      (half_stored_other n (a + 2) (v % 65536) a (inr (omega arith)) ∙ half_stored_same m a (v / 65536) (omega arith))
      (half_stored_same n (a + 2) (v % 65536) (omega (arith, k)))
      ∙ omega arith

  pub word_stored_other : (b : ℕ) → (a + 3 < b) ⊎ (b + 3 < a) → load_word (store_word m a v) b ≡ load_word m b
  unfolding load_word store_word
  word_stored_other b o =
      let n = store_half m a (v / 65536) in
      ap₂ (λ (x y : ℕ). x * 65536 + y)
      (half_stored_other n (a + 2) (v % 65536) b (near (a + 2) b (omega arith))
      ∙ half_stored_other m a (v / 65536) b (near a b (omega arith)))
      (half_stored_other n (a + 2) (v % 65536) (b + 2) (near (a + 2) (b + 2) (omega arith))
      ∙ half_stored_other m a (v / 65536) (b + 2) (near a (b + 2) (omega arith)))
    where
      near : (x y : ℕ) → (a ≤ x) × (x ≤ a + 2) × (b ≤ y) × (y ≤ b + 2) → (x + 1 < y) ⊎ (y + 1 < x)
      near x y h = ⊎_elim (λ (l : a + 3 < b). inl (omega arith)) (λ (l : b + 3 < a). inr (omega arith)) o

  pub byte_stored_far : (b : ℕ) → (b < a) ⊎ (a + 4 ≤ b) → get_or (store_word m a v) b 0 ≡ get_or m b 0
  unfolding store_word
  byte_stored_far b (inl h) =
      byte_stored_other (store_half m a (v / 65536)) (a + 2) (v % 65536) b (λ e. omega arith) (λ e. omega arith)
      ∙ byte_stored_other m a (v / 65536) b (λ e. omega arith) (λ e. omega arith)
  byte_stored_far b (inr h) =
      byte_stored_other (store_half m a (v / 65536)) (a + 2) (v % 65536) b (λ e. omega arith) (λ e. omega arith)
      ∙ byte_stored_other m a (v / 65536) b (λ e. omega arith) (λ e. omega arith)
