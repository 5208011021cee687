-- A cell starts or not, then those of the span add.
use Rattle.cells.proofs.Added.{row_added}
use Rattle.cells.proofs.summing.add_row.Goals as goal

pub returns : goal.returns
returns c = row_added c.requires c.begin.ensures c.summed-summed.ensures c.add.ensures
