use Rattle.stride_eight.proofs.Written.{to_encode, goes_on, ends}
use Rattle.stride_eight.proofs.encoding.encode.Goals as goal

pub encode-requires : goal.encode-requires
encode-requires c = to_encode c.loop-i.invariant c.requires c.loop-i-test.true

pub loop-i-preserved : goal.loop-i-preserved
loop-i-preserved c = goes_on c.loop-i.invariant c.requires c.loop-i-test.true c.encode.ensures

pub returns : goal.returns
returns c = ends c.loop-i.invariant c.requires c.loop-i-test.false
