-- The rows passed are those that `relaxed` gives (Relaxing).
use Rattle.stride_eight.proofs.Closing.{Relaxing}
use Rattle.stride_eight.proofs.passes.rows.Given as goal

abbrev pub invariant-loop-i : goal.invariant-loop-i
invariant-loop-i l = Relaxing l.a l.k l.via l.fn.table l.i l.table
