-- The first i words of the diagonal are 0.
use Rattle.road_table.specs.inner.Held.{DiagonalCleared}
use Rattle.road_table.proofs.clear_diagonal.Given as goal

abbrev pub invariant-loop-i : goal.invariant-loop-i
invariant-loop-i l = DiagonalCleared l.points l.i l.initial.table l.table
