-- The words up to p have added.
use Rattle.memory.specs.Walked.{Spanned}
use Rattle.cells.specs.Settled.{added}
use Rattle.cells.proofs.summing.add.Given as goal

abbrev pub invariant-loop-p : goal.invariant-loop-p
invariant-loop-p l = Spanned (added l.algebra l.area l.initial.planes) l.initial.planes l.at l.p l.planes
