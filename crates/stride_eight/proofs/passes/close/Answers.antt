use Rattle.std.proofs.Common.{rules}
use Rattle.stride_eight.proofs.Closing.{begins, goes_through, ends}
use Rattle.stride_eight.proofs.passes.close.Goals as goal

pub loop-k-init : goal.loop-k-init
loop-k-init c = search begins

pub loop-k-preserved : goal.loop-k-preserved
loop-k-preserved c = goes_through c.loop-k.invariant c.loop-k-test.true c.copy.ensures c.rows.ensures (search rules)

pub returns : goal.returns
returns c = ends c.loop-k.invariant c.loop-k-test.false
