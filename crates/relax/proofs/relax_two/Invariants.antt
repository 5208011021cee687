-- Walked word by word, each as `relaxed_twice` says.
use Rattle.memory.proofs.Walk.{Walking}
use Rattle.relax.specs.Relax.{relaxed_twice}
use Rattle.relax.proofs.relax_two.Given as goal

abbrev pub invariant-loop-p : goal.invariant-loop-p
invariant-loop-p l = Walking (relaxed_twice l.a l.k l.via l.next l.fn.row) l.fn.row l.p l.row
