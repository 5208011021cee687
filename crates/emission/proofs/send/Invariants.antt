use Rattle.emission.proofs.Sent.{SentTo}
use Rattle.emission.proofs.send.Given as goal

abbrev pub invariant-loop-i : goal.invariant-loop-i
invariant-loop-i l = SentTo l.n l.size l.band l.planes l.initial.part l.i l.part
