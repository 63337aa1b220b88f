-- `marks_of` reads each byte as a mark.
use Rattle.std.proofs.Common.{rules, false, get_or}
use Rattle.instructions.proofs.Made.{made_leaves}
use Rattle.border.specs.Lent.{is_yes}
use Rattle.border.proofs.marks_of.Goals as goal

pub returns : goal.returns
returns c =
    made_leaves (λ k. is_yes (get_or c.args.bytes k 0)) false c.from_fn.ensures.items (λ p q k x e h. (search rules, search rules))
