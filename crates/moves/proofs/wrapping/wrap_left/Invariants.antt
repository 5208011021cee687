-- The left edge's words up to row i are the last column's.
use Rattle.std.proofs.Common.{◌+◌}
use Rattle.moves.specs.Edges.{LeftWrapped}
use Rattle.moves.proofs.wrapping.wrap_left.Given as goal

abbrev pub invariant-loop-i : goal.invariant-loop-i
invariant-loop-i l = LeftWrapped l.n l.planes l.initial.edges (l.n + l.i) l.edges
