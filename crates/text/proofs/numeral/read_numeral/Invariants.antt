-- The digits so far and those to come give the number.
use Rattle.text.proofs.Digits.{Valued}
use Rattle.text.proofs.numeral.read_numeral.Given as goal

abbrev pub invariant-loop-byte : goal.invariant-loop-byte
invariant-loop-byte l = Valued l.long l.most l.part l.value l.byte-index
