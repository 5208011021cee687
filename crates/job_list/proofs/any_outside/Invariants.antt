use Rattle.memory.proofs.Any.{Looking}
use Rattle.refusals.specs.Tests.{outside}
use Rattle.job_list.proofs.any_outside.Given as goal

abbrev pub invariant-loop-size : goal.invariant-loop-size
invariant-loop-size l = Looking (outside 1 l.order) l.sizes l.size-index l.found
