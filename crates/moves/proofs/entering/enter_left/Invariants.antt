-- The rows from the first up to row i have the left edge's words.
use Rattle.moves.specs.Edges.{LeftEntered}
use Rattle.moves.proofs.entering.enter_left.Given as goal

abbrev pub invariant-loop-i : goal.invariant-loop-i
invariant-loop-i l = LeftEntered l.n l.from l.i l.left l.initial.planes l.planes
