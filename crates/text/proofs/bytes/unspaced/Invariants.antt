-- Every byte so far is a space.
use Rattle.text.proofs.Walks.{Spaces}
use Rattle.text.proofs.bytes.unspaced.Given as goal

abbrev pub invariant-loop-at : goal.invariant-loop-at
invariant-loop-at l = Spaces l.from l.line l.at
