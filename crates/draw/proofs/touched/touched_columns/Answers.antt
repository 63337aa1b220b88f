-- A column whose sample points lie before or beyond all three vertices has nothing inside.
use Rattle.draw.proofs.Touch.{columns_touched}
use Rattle.draw.proofs.touched.touched_columns.Goals as goal

pub returns : goal.returns
returns c =
    let n = c.across.ensures in
    columns_touched n.first n.second n.third c.touched.ensures
