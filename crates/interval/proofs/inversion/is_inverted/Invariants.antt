-- What was found tells of the stretches passed.
use Rattle.interval.proofs.Walks.{Walking}
use Rattle.interval.proofs.inversion.is_inverted.Given as goal

abbrev pub invariant-loop-i : goal.invariant-loop-i
invariant-loop-i l = Walking l.a l.n l.best l.worst l.i l.found
