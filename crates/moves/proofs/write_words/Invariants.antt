-- `write_words` leaves `words_written`. The loop's invariant: the first `i` words are written, which are the definition's first `i` passes.
use Prim.Native.Nat.{◌-◌, ◌≤◌}
use mathlib.Core.Path.{◌≡◌}
use lib.ListN.{length}
use Rattle.rules.specs.Folds.{upto}
use Rattle.instructions.specs.Moves.{word_written}
use Rattle.moves.proofs.write_words.Given as goal

abbrev pub invariant-loop-i : goal.invariant-loop-i
invariant-loop-i l = (l.i ≤ 16) × (length l.ram ≡ length l.initial.ram) × (l.ram ≡ upto (word_written l.memory l.from l.to) l.i l.initial.ram)

abbrev pub decreases-loop-i : goal.decreases-loop-i
decreases-loop-i l = 16 - l.i
