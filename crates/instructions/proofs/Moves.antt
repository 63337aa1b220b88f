-- READ and WRITE, word by word and byte by byte, with no order of work in it: the sixteen words are copied, and all else stays.
use Prim.Native.Nat.{ℕ, zero, suc, ◌+◌, ◌-◌, ◌*◌, ◌/◌, ◌%◌, ◌≤◌, ◌<◌}
use mathlib.Core.Path.{◌≡◌, refl, ◌∙◌, ap₂}
use mathlib.Core.Logic.{◌⊎◌, inl, inr, ⊎_elim}
use mathlib.Core.List.{List}
use native.Mathlib.Omega.{arith}
use native.Mathlib.Decide.{dec_lt}
use lib.ListN.{length, get_or, length-set}
use lib.Seq.{get_or-set_same, get_or-set_other}
use Rattle.rules.specs.Folds.{upto}
use Rattle.ram.proofs.Words.{length-store_word, word_stored_same, word_stored_other, byte_stored_far}
use Rattle.ram.specs.Ram.{load_word}
use Rattle.instructions.specs.Moves.{word_read, words_read, word_written, words_written}

-- the last of n + 1 passes, or one before it
last : (i n : ℕ) → i < suc n → (i < n) ⊎ (i ≡ n)
last i n l = go (dec_lt i n)
  where
    go : Dec (i < n) → (i < n) ⊎ (i ≡ n)
    go (yes b) = inl b
    go (no d) = inr (omega (arith, d))

-- so many words, from one address to another
pub record Move : Type 0 where
  pub from : ℕ
  pub to : ℕ
  pub count : ℕ

abbrev pub move : ℕ → ℕ → ℕ → Move
move from to count = record { from = from; to = to; count = count }

-- the words of a READ
pub record Copied (ram : List ℕ) (w : Move) (memory after : List ℕ) : Type 0 where
  pub same_length : length after ≡ length memory
  pub words : (i : ℕ) → i < w.count → get_or after (w.to + i) 0 ≡ load_word ram (w.from + 4 * i)
  pub others : (k : ℕ) → (k < w.to) ⊎ (w.to + w.count ≤ k) → get_or after k 0 ≡ get_or memory k 0

module _ (ram : List ℕ) (to from : ℕ) (memory : List ℕ) where
  copied : (n : ℕ) → to + n ≤ length memory → Copied ram (move from to n) memory (upto (word_read ram to from) n memory)
  unfolding upto word_read
  copied zero h = record { same_length = refl; words = λ i l. absurd (omega arith); others = λ k o. refl }
  copied (suc n) h =
      let m = upto (word_read ram to from) n memory in
      let v = load_word ram (from + 4 * n) in
      let c : Copied ram (move from to n) memory m = copied n (omega arith) in
      record {
        same_length = length-set m (to + n) v ∙ c.same_length;
        words = λ i l.
            ⊎_elim
            (λ (b : i < n). get_or-set_other m (to + n) (to + i) v 0 (λ e. omega arith) ∙ c.words i b)
            (λ (e : i ≡ n). rw e (get_or-set_same m (to + n) v 0 (omega (arith, c.same_length))))
            (last i n l);
        others = λ k o.
            get_or-set_other m (to + n) k v 0 (λ e. ⊎_elim (λ (a : k < to). omega arith) (λ (a : to + suc n ≤ k). omega arith) o)
            ∙ c.others k (⊎_elim (λ (a : k < to). inl a) (λ (a : to + suc n ≤ k). inr (omega arith)) o);
      }

  -- READ
  pub read_pointwise : to + 16 ≤ length memory → Copied ram (move from to 16) memory (words_read ram to from memory)
  unfolding words_read
  read_pointwise h = copied 16 h

-- the words of a WRITE
pub record Stored (memory : List ℕ) (w : Move) (ram after : List ℕ) : Type 0 where
  pub same_length : length after ≡ length ram
  pub words : (i : ℕ) → i < w.count → load_word after (w.to + 4 * i) ≡ get_or memory (w.from + i) 0
  pub others : (b : ℕ) → (b < w.to) ⊎ (w.to + 4 * w.count ≤ b) → get_or after b 0 ≡ get_or ram b 0

module _ (memory : List ℕ) (from to : ℕ) (ram : List ℕ) where
  stored : (n : ℕ) → to + 4 * n ≤ length ram → Stored memory (move from to n) ram (upto (word_written memory from to) n ram)
  unfolding upto word_written
  stored zero h = record { same_length = refl; words = λ i l. absurd (omega arith); others = λ b o. refl }
  stored (suc n) h =
      let m = upto (word_written memory from to) n ram in
      let v = get_or memory (from + n) 0 in
      let c : Stored memory (move from to n) ram m = stored n (omega arith) in
      record {
        same_length = length-store_word m (to + 4 * n) v ∙ c.same_length;
        words = λ i l.
            ⊎_elim
            (λ (b : i < n). word_stored_other m (to + 4 * n) v (to + 4 * i) (inr (omega arith)) ∙ c.words i b)
            (λ (e : i ≡ n). rw e (word_stored_same m (to + 4 * n) v (omega (arith, c.same_length))))
            (last i n l);
        others = λ b o.
            ⊎_elim
            (λ (a : b < to). byte_stored_far m (to + 4 * n) v b (inl (omega arith)) ∙ c.others b (inl a))
            (λ (a : to + 4 * suc n ≤ b). byte_stored_far m (to + 4 * n) v b (inr (omega arith)) ∙ c.others b (inr (omega arith)))
            o;
      }

  -- WRITE
  pub write_pointwise : to + 64 ≤ length ram → Stored memory (move from to 16) ram (words_written memory from to ram)
  unfolding words_written
  write_pointwise h = stored 16 h
