-- What was found so far and what the rest will find are the whole test (Seeing).
use Rattle.byte_tables.proofs.Parts.{Seeing}
use Rattle.byte_tables.proofs.test.above.Given as goal

abbrev pub invariant-loop-p : goal.invariant-loop-p
invariant-loop-p l = Seeing l.top l.bytes l.p l.found
