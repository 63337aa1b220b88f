-- A row whose sample points lie before or beyond all three vertices has nothing inside.
use Rattle.draw.proofs.Touch.{rows_touched}
use Rattle.draw.proofs.touched.touched_rows.Goals as goal

pub returns : goal.returns
returns c =
    let n = c.down.ensures in
    rows_touched n.first n.second n.third c.touched.ensures
