-- The rows written so far (Writing).
use Rattle.stride_eight.proofs.Written.{Writing}
use Rattle.stride_eight.proofs.encoding.encode.Given as goal

abbrev pub invariant-loop-i : goal.invariant-loop-i
invariant-loop-i l = Writing l.n l.table l.fn.res l.i l.res
