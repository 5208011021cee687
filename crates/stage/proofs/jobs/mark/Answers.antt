use Rattle.stage.proofs.Places.{begins, sum_room, goes_on, ends}
use Rattle.stage.proofs.jobs.mark.Goals as goal

pub loop-q-init : goal.loop-q-init
loop-q-init c = begins _ _

pub overflow_add-at : goal.overflow_add-at
overflow_add-at c = search sum_room

pub loop-q-preserved : goal.loop-q-preserved
loop-q-preserved c = search goes_on

pub returns : goal.returns
returns c = search ends
