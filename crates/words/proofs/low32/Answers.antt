-- The low half of a number of 64 bits read as unsigned is the number modulo 2^32.
use Rattle.std.proofs.Common.{rules}
use Rattle.ints.proofs.Modulo.{mod32-low}
use Rattle.words.proofs.low32.Goals as goal

pub returns : goal.returns
returns c = search (rules, mod32-low c.args.z c.ranges.z.sfits)
