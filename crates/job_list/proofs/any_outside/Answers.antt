use Rattle.std.proofs.Common.{rules}
use Rattle.memory.proofs.Any.{look_begins, look_goes_on, look_ends}
use Rattle.job_list.proofs.any_outside.Goals as goal

pub loop-size-init : goal.loop-size-init
loop-size-init c = look_begins

pub loop-size-preserved : goal.loop-size-preserved
loop-size-preserved c = look_goes_on c.loop-size.invariant (search rules) (search (rules, c.from.ensures))

pub returns : goal.returns
returns c = search look_ends
