-- The rows laid out so far (Laying).
use Rattle.stride_eight.proofs.Rows.{Laying}
use Rattle.stride_eight.proofs.layout.lay_out.Given as goal

abbrev pub invariant-loop-i : goal.invariant-loop-i
invariant-loop-i l = Laying l.word l.n l.rows l.weights l.fn.table l.i l.table
