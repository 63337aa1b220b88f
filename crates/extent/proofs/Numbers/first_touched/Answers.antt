-- The least of the three, and what it is raised by, as integers.
use native.Mathlib.Omega.{arith}
use Rattle.std.proofs.Common.{rules}
use Rattle.std.proofs.lemmas.Int.{ints, int_max_is}
use Rattle.extent.proofs.Numbers.first_touched.Goals as goal

pub overflow_cast-result : goal.overflow_cast-result
overflow_cast-result c =
    (search (arith, ints, rules, c.max.ensures.other_bound), record { fits = omega (arith, ints, int_max_is, c.max.ensures.value) })

pub returns : goal.returns
returns c k h =
    record {
      first = omega (arith, ints, int_max_is, c.max.ensures.value);
      second = omega (arith, ints, int_max_is, c.max.ensures.value);
      third = omega (arith, ints, int_max_is, c.max.ensures.value);
    }
