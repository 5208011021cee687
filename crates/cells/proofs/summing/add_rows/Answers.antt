use Rattle.std.proofs.Common.{arith}
use Rattle.cells.proofs.Going.{begins, one_row, goes_on, ends}
use Rattle.cells.proofs.summing.add_rows.Goals as goal

pub loop-i-init : goal.loop-i-init
loop-i-init c = begins c.requires

pub add_row-requires : goal.add_row-requires
add_row-requires c = one_row c.loop-i.invariant (omega arith)

pub loop-i-preserved : goal.loop-i-preserved
loop-i-preserved c = goes_on c.loop-i.invariant (omega arith) c.add_row.ensures c.back-s.ensures

pub returns : goal.returns
returns c = ends c.loop-i.invariant (omega arith)
