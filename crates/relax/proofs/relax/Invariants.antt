-- Walked word by word, each as `relaxed` says.
use Rattle.memory.proofs.Walk.{Walking}
use Rattle.relax.specs.Relax.{relaxed}
use Rattle.relax.proofs.relax.Given as goal

abbrev pub invariant-loop-p : goal.invariant-loop-p
invariant-loop-p l = Walking (relaxed l.a l.k l.via l.fn.row) l.fn.row l.p l.row
