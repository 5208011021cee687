use Rattle.memory.proofs.Any.{look_begins, look_goes_on, look_ends}
use Rattle.job_list.proofs.algebras.any_other.Goals as goal

pub loop-other-init : goal.loop-other-init
loop-other-init c = look_begins

pub loop-other-preserved : goal.loop-other-preserved
loop-other-preserved c = search look_goes_on

pub returns : goal.returns
returns c = search look_ends
