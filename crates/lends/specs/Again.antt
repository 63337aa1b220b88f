-- What two calls, the second from what the first left, answer together: the last number, what is left at the end, and the counts added;
-- and so of the calls 0, 1, .., n.
use Rattle.std.specs.Prelude.{ℕ, zero, suc, ◌+◌}
use Rattle.lends.specs.Lends.{LentOutcome}

abbrev pub in_turn : LentOutcome → LentOutcome → LentOutcome
in_turn p q = record { number = q.number; count = p.count + q.count; left = q.left }

unfoldable pub all_in_turn : (ℕ → LentOutcome) → ℕ → LentOutcome
all_in_turn o zero = o 0
all_in_turn o (suc n) = in_turn (all_in_turn o n) (o (suc n))
