-- The words up to word p are copied.
use Rattle.memory.specs.Walked.{Walked}
use Rattle.std.specs.Prelude.{get_or}
use Rattle.memory.proofs.copy.Given as goal

abbrev pub invariant-loop-p : goal.invariant-loop-p
invariant-loop-p l = Walked (λ p word. get_or l.from p 0) l.initial.to l.p l.to
