-- An area filled with one half-word, from its start on.
use Rattle.std.specs.Prelude.{ℕ, ◌+◌, ◌*◌, List}
use Rattle.rules.specs.Folds.{upto}
use Rattle.ram.specs.Ram.{store_half}

unfoldable pub filled : ℕ → ℕ → ℕ → List ℕ → List ℕ
filled start v count m = upto (λ i b. store_half b (start + i * 2) v) count m
