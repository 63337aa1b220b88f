-- docs/RULES.md, 9.5 (01, "Machine words"): READ and WRITE, 16 words between the RAM and the data memory.
use Rattle.std.specs.Prelude.{ℕ, ◌+◌, ◌*◌, List, get_or, set}
use Rattle.rules.specs.Folds.{upto}
use Rattle.ram.specs.Ram.{load_word, store_word}

-- "READ copies 16 words from the RAM byte address in r2 to the data address in r1"
unfoldable pub word_read : List ℕ → ℕ → ℕ → ℕ → List ℕ → List ℕ
word_read ram to from i memory = set memory (to + i) (load_word ram (from + 4 * i))

unfoldable pub words_read : List ℕ → ℕ → ℕ → List ℕ → List ℕ
words_read ram to from memory = upto (word_read ram to from) 16 memory

-- "WRITE the other way (house)": from the data address in r1 to the RAM byte address in r2
unfoldable pub word_written : List ℕ → ℕ → ℕ → ℕ → List ℕ → List ℕ
word_written memory from to i ram = store_word ram (to + 4 * i) (get_or memory (from + i) 0)

unfoldable pub words_written : List ℕ → ℕ → ℕ → List ℕ → List ℕ
words_written memory from to ram = upto (word_written memory from to) 16 ram
