-- The walk goes from one place on the diagonal to the next (Laying).
use Rattle.std.proofs.Common.{◌-◌}
use Rattle.table_layout.proofs.Diagonal.{Laying}
use Rattle.table_layout.proofs.lay_out.Given as goal

abbrev pub invariant-loop-at : goal.invariant-loop-at
invariant-loop-at l = Laying l.word l.n l.m l.weights l.fn.table l.at l.table

abbrev pub decreases-loop-at : goal.decreases-loop-at
decreases-loop-at l = l.m - l.at
