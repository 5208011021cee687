-- What was found tells of the words passed.
use Rattle.interval.proofs.Walks.{Comparing}
use Rattle.interval.proofs.inversion.some_better.Given as goal

abbrev pub invariant-loop-p : goal.invariant-loop-p
invariant-loop-p l = Comparing l.a l.words l.others l.p l.found
