-- The bytes written so far (Encoding).
use Rattle.byte_tables.proofs.Words.{Encoding}
use Rattle.byte_tables.proofs.bytes.encode.Given as goal

abbrev pub invariant-loop-p : goal.invariant-loop-p
invariant-loop-p l = Encoding l.words l.fn.bytes l.p l.bytes
