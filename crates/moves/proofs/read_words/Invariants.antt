-- `read_words` leaves `words_read`. The loop's invariant: the first `i` words are read, which are the definition's first `i` passes.
use Prim.Native.Nat.{◌-◌, ◌≤◌}
use mathlib.Core.Path.{◌≡◌}
use lib.ListN.{length}
use Rattle.rules.specs.Folds.{upto}
use Rattle.instructions.specs.Moves.{word_read}
use Rattle.moves.proofs.read_words.Given as goal

abbrev pub invariant-loop-i : goal.invariant-loop-i
invariant-loop-i l = (l.i ≤ 16) × (length l.memory ≡ length l.initial.memory) × (l.memory ≡ upto (word_read l.ram l.to l.from) l.i l.initial.memory)

abbrev pub decreases-loop-i : goal.decreases-loop-i
decreases-loop-i l = 16 - l.i
