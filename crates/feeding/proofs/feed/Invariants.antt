use Rattle.feeding.proofs.FedWords.{FedTo}
use Rattle.feeding.proofs.feed.Given as goal

abbrev pub invariant-loop-x : goal.invariant-loop-x
invariant-loop-x l = FedTo l.algebra l.n l.size l.band l.weights l.initial.edges l.x l.edges
