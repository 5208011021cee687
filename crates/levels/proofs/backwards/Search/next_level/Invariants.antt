-- Before each turn the points of level r below u were joined.
use Rattle.levels.proofs.Turns.{LevelBegun}
use Rattle.levels.proofs.backwards.Search.next_level.Given as goal

abbrev pub invariant-loop-u : goal.invariant-loop-u
invariant-loop-u l = LevelBegun l.self l.r l.initial.marks l.marks l.u
