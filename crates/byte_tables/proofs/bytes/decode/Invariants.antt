-- The words written so far (Decoding).
use Rattle.byte_tables.proofs.Words.{Decoding}
use Rattle.byte_tables.proofs.bytes.decode.Given as goal

abbrev pub invariant-loop-p : goal.invariant-loop-p
invariant-loop-p l = Decoding l.bytes l.fn.words l.p l.words
