-- The rows passed are those that `relaxed` gives.
use Rattle.relax.specs.Relax.{relaxed}
use Rattle.elimination.proofs.Rows.{RowsWalked}
use Rattle.elimination.proofs.passes.rows.Given as goal

abbrev pub invariant-loop-i : goal.invariant-loop-i
invariant-loop-i l = RowsWalked l.n (relaxed l.a l.k l.via) l.fn.table l.i l.table
