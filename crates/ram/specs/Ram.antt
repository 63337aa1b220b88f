-- docs/RULES.md, 1.2 (01, "Sizes"): the RAM's "words and half-words big-endian".
use Rattle.std.specs.Prelude.{ℕ, ◌+◌, ◌*◌, ◌/◌, ◌%◌, List, get_or, set}

unfoldable pub load_half : List ℕ → ℕ → ℕ
load_half m a = get_or m a 0 * 256 + get_or m (a + 1) 0

unfoldable pub store_half : List ℕ → ℕ → ℕ → List ℕ
store_half m a v = set (set m a (v / 256)) (a + 1) (v % 256)

unfoldable pub load_word : List ℕ → ℕ → ℕ
load_word m a = load_half m a * 65536 + load_half m (a + 2)

unfoldable pub store_word : List ℕ → ℕ → ℕ → List ℕ
store_word m a v = store_half (store_half m a (v / 65536)) (a + 2) (v % 65536)
