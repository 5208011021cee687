-- Before each turn the points below v were seen from u.
use Rattle.levels.proofs.Turns.{Linking}
use Rattle.levels.proofs.backwards.Search.join.Given as goal

abbrev pub invariant-loop-v : goal.invariant-loop-v
invariant-loop-v l = Linking l.self l.r l.u l.initial.marks l.marks l.v
