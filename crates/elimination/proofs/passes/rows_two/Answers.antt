use Rattle.elimination.proofs.Rows.{goes_on, ends_two}
use Rattle.elimination.proofs.passes.rows_two.Goals as goal

pub loop-i-preserved : goal.loop-i-preserved
loop-i-preserved c = search goes_on

pub returns : goal.returns
returns c = search ends_two
