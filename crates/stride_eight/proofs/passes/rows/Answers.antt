use Rattle.stride_eight.proofs.Closing.{row_relaxed, rows_relaxed}
use Rattle.stride_eight.proofs.passes.rows.Goals as goal

pub loop-i-preserved : goal.loop-i-preserved
loop-i-preserved c = row_relaxed c.loop-i.invariant c.requires.0 c.loop-i-test.true c.relax.ensures

pub returns : goal.returns
returns c = rows_relaxed c.loop-i.invariant c.requires.0 c.loop-i-test.false c.requires.1
