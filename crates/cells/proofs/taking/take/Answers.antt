-- A column whose point is its own number is half of the row's point, or of that and n; and one column has the row for its point.
use Rattle.cells.proofs.Taken.{row_took}
use Rattle.cells.proofs.taking.take.Goals as goal

pub returns : goal.returns
returns c =
    row_took c.requires c.moved-moved.ensures c.summed-summed.ensures c.a_takes.ensures c.a_takes-2.ensures c.column.ensures c.put.ensures
