-- `all` ends: a text takes its label's line, so less is left after it.
use Rattle.std.proofs.Common.{length}
use Rattle.texts.proofs.cases.all.Given as goal

abbrev pub decreases-loop-end : goal.decreases-loop-end
decreases-loop-end l = length l.rest
