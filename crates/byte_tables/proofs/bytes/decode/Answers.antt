use Rattle.std.proofs.Common.{arith}
use Rattle.byte_tables.proofs.Words.{decode_ends}
use Rattle.byte_tables.proofs.bytes.decode.Goals as goal

pub returns : goal.returns
returns c = decode_ends c.loop-p.invariant c.requires (omega arith)
