use Rattle.memory.proofs.Any.{look_begins, look_goes_on, look_ends}
use Rattle.job_list.proofs.algebras.any_unknown.Goals as goal

pub loop-number-init : goal.loop-number-init
loop-number-init c = look_begins

pub loop-number-preserved : goal.loop-number-preserved
loop-number-preserved c = search look_goes_on

pub returns : goal.returns
returns c = search look_ends
