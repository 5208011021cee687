use Rattle.std.proofs.Common.{ℕ, not, eqb}
use Rattle.memory.proofs.Any.{Looking}
use Rattle.job_list.proofs.algebras.any_other.Given as goal

abbrev pub invariant-loop-other : goal.invariant-loop-other
invariant-loop-other l = Looking (λ (m : ℕ). not (eqb m l.number)) l.algebras l.other-index l.found
