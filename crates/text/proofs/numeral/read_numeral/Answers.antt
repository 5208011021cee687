-- `text::read_numeral` meets its contract: one above `most` stays above it.
use Rattle.text.proofs.Digits.{valued_one, numeral_above, numeral_whole}
use Rattle.text.proofs.numeral.read_numeral.Goals as goal

pub returns-then-most-value : goal.returns-then-most-value
returns-then-most-value c = search numeral_above

pub loop-byte-preserved : goal.loop-byte-preserved
loop-byte-preserved c = search valued_one

pub returns : goal.returns
returns c = search numeral_whole
