use Rattle.std.proofs.Common.{refl}
use Rattle.byte_tables.proofs.Parts.{seeing_goes_on, seeing_ends}
use Rattle.byte_tables.proofs.test.above.Goals as goal

pub loop-p-preserved : goal.loop-p-preserved
loop-p-preserved c = seeing_goes_on c.loop-p.invariant c.word.result c.loop-p-test.true c.word.ensures refl

pub returns : goal.returns
returns c = seeing_ends c.loop-p.invariant c.loop-p-test.false
