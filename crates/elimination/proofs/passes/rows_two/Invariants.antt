-- The rows passed are those that `relaxed_twice` gives.
use Rattle.relax.specs.Relax.{relaxed_twice}
use Rattle.elimination.proofs.Rows.{RowsWalked}
use Rattle.elimination.proofs.passes.rows_two.Given as goal

abbrev pub invariant-loop-i : goal.invariant-loop-i
invariant-loop-i l = RowsWalked l.n (relaxed_twice l.a l.k l.via l.next) l.fn.table l.i l.table
