-- No byte so far is `end`.
use Rattle.text.proofs.Walks.{Passed}
use Rattle.text.proofs.bytes.until.Given as goal

abbrev pub invariant-loop-at : goal.invariant-loop-at
invariant-loop-at l = Passed l.end l.from l.bytes l.at
