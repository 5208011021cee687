use Rattle.byte_tables.proofs.Words.{encode_ends}
use Rattle.byte_tables.proofs.bytes.encode.Goals as goal

pub returns : goal.returns
returns c = encode_ends c.loop-p.invariant c.requires c.loop-p-test.false
