-- The passes made so far (Closing).
use Rattle.std.proofs.Common.{◌*◌}
use Rattle.elimination.proofs.Points.{Closing}
use Rattle.elimination.proofs.passes.close.Given as goal

abbrev pub invariant-loop-points : goal.invariant-loop-points
invariant-loop-points l = Closing l.a l.n l.fn.table l.via l.next (2 * l.points) l.table
