-- The walk goes as the layout of words does (Laying), over the words of the bytes.
use Rattle.std.proofs.Common.{◌-◌}
use Rattle.table_layout.proofs.Diagonal.{Laying}
use Rattle.byte_tables.specs.Bytes.{decoded}
use Rattle.byte_tables.proofs.layout.lay_out.Given as goal

abbrev pub invariant-loop-at : goal.invariant-loop-at
invariant-loop-at l = Laying l.word l.n l.m (decoded l.weights) l.fn.table l.at l.table

abbrev pub decreases-loop-at : goal.decreases-loop-at
decreases-loop-at l = l.m - l.at
