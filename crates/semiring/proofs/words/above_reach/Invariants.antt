-- The bits taken together tell of the words passed whether one is above 1.
use Rattle.std.proofs.Common.{ltb}
use Rattle.memory.proofs.Any.{Looking}
use Rattle.semiring.proofs.words.above_reach.Given as goal

abbrev pub invariant-loop-word : goal.invariant-loop-word
invariant-loop-word l = Looking (ltb 1) l.words l.word-index (ltb 1 l.bits)
