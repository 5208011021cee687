-- The places stand in the invariant (Following).
use Rattle.levels.proofs.Following.{begins, goes_on, less, ends}
use Rattle.levels.proofs.successors.follow.Goals as goal

pub loop-v-init : goal.loop-v-init
loop-v-init c = search begins

pub loop-v-smaller : goal.loop-v-smaller
loop-v-smaller c = search less

pub loop-v-preserved : goal.loop-v-preserved
loop-v-preserved c = search goes_on

pub returns : goal.returns
returns c = search ends
