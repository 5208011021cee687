use Rattle.std.proofs.Common.{arith}
use Rattle.cells.proofs.Going.{all_begin, one_row, goes_on, ends}
use Rattle.cells.proofs.taking.take_rows.Goals as goal

pub loop-i-init : goal.loop-i-init
loop-i-init c = all_begin c.args.front.on_tick c.requires

pub take-requires : goal.take-requires
take-requires c = one_row c.loop-i.invariant (omega arith)

pub loop-i-preserved : goal.loop-i-preserved
loop-i-preserved c = goes_on c.loop-i.invariant (omega arith) c.take.ensures c.back-s.ensures

pub returns : goal.returns
returns c = ends c.loop-i.invariant (omega arith)
