use Rattle.std.proofs.Common.{ltb}
use Rattle.memory.proofs.Any.{Looking}
use Rattle.job_list.proofs.algebras.any_unknown.Given as goal

abbrev pub invariant-loop-number : goal.invariant-loop-number
invariant-loop-number l = Looking (ltb 2) l.algebras l.number-index l.found
