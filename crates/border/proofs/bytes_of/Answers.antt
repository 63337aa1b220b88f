-- `bytes_of` answers each mark as 0 or 1.
use Rattle.std.proofs.Common.{rules, false, get_or}
use Rattle.instructions.proofs.Made.{made_leaves}
use Rattle.border.specs.Lent.{number_of}
use Rattle.border.proofs.bytes_of.Goals as goal

pub returns : goal.returns
returns c =
    made_leaves (λ k. number_of (get_or c.args.marks k false)) 0 c.from_fn.ensures.items (λ p q k x e h. (search rules, search rules))
