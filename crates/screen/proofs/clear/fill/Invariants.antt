-- `clear::fill` leaves `filled`: at i the first i half-words are stored.
use mathlib.Core.Path.{◌≡◌}
use Rattle.screen.specs.Fills.{filled}
use Rattle.screen.proofs.clear.fill.Given as goal

abbrev pub invariant-loop-i : goal.invariant-loop-i
invariant-loop-i l = l.ram ≡ filled l.start l.v l.i l.initial.ram
