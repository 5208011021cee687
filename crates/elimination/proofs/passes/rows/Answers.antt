use Rattle.elimination.proofs.Rows.{goes_on, ends}
use Rattle.elimination.proofs.passes.rows.Goals as goal

pub loop-i-preserved : goal.loop-i-preserved
loop-i-preserved c = search goes_on

pub returns : goal.returns
returns c = search ends
