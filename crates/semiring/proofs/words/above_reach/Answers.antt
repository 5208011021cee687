use Rattle.std.proofs.Common.{rules}
use Rattle.memory.proofs.Any.{look_begins, look_goes_on, look_ends}
use Rattle.semiring.proofs.Above.{or_above}
use Rattle.semiring.proofs.words.above_reach.Goals as goal

pub loop-word-init : goal.loop-word-init
loop-word-init c = look_begins

pub loop-word-preserved : goal.loop-word-preserved
loop-word-preserved c = look_goes_on c.loop-word.invariant (search rules) (search or_above)

pub returns : goal.returns
returns c = look_ends c.loop-word.invariant (search rules)
