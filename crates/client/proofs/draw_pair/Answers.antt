-- The three calls, in order, none of which refuses.
use Rattle.client.proofs.Drawn.{first_drawn, second_drawn, pair_painted}
use Rattle.client.proofs.draw_pair.Goals as goal

pub unwrap-requires-2 : goal.unwrap-requires-2
unwrap-requires-2 c = first_drawn c.requires c.clear.ensures _ c.draw.ensures

pub unwrap-requires-3 : goal.unwrap-requires-3
unwrap-requires-3 c = second_drawn c.requires c.clear.ensures _ c.draw.ensures _ c.draw-2.ensures (assumption c.requires)

pub returns : goal.returns
returns c = pair_painted c.requires c.clear.ensures _ c.draw.ensures _ c.draw-2.ensures
