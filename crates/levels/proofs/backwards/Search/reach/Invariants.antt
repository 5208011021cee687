-- Before each turn the levels below r are done.
use Rattle.levels.specs.inner.Search.{Searched}
use Rattle.levels.proofs.backwards.Search.reach.Given as goal

abbrev pub invariant-loop-r : goal.invariant-loop-r
invariant-loop-r l = Searched l.self l.r l.marks
