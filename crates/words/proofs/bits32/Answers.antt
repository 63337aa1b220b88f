-- A number of 32 bits read as unsigned is the number modulo 2^32.
use Rattle.std.proofs.Common.{rules}
use Rattle.ints.proofs.Modulo.{mod32-bits}
use Rattle.words.proofs.bits32.Goals as goal

pub returns : goal.returns
returns c = search (rules, mod32-bits c.args.v c.ranges.v.sfits)
