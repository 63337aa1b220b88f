-- `load_halves` gives the sixteen half-words, leaf by leaf.
use Rattle.std.proofs.Common.{rules, ◌+◌, ◌*◌}
use Rattle.ram.specs.Ram.{load_half}
use Rattle.instructions.proofs.Made.{made_leaves}
use Rattle.tree.proofs.load_halves.Goals as goal

pub returns : goal.returns
returns c =
    made_leaves (λ k. load_half c.args.ram.now (c.args.first + 2 * k)) 0 c.from_fn.ensures.items
    (λ p q k x e h. (search rules, search rules))
