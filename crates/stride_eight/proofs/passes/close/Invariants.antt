-- The points passed so far (Closing).
use Rattle.stride_eight.proofs.Closing.{Closing}
use Rattle.stride_eight.proofs.passes.close.Given as goal

abbrev pub invariant-loop-k : goal.invariant-loop-k
invariant-loop-k l = Closing l.a l.n l.fn.table l.via l.k l.table
