use Rattle.stride_eight.proofs.Rows.{to_decode, goes_on, ends}
use Rattle.stride_eight.proofs.layout.lay_out.Goals as goal

pub decode-requires : goal.decode-requires
decode-requires c = to_decode c.loop-i.invariant c.requires c.loop-i-test.true

pub loop-i-preserved : goal.loop-i-preserved
loop-i-preserved c = goes_on c.loop-i.invariant c.requires c.loop-i-test.true c.decode.ensures

pub returns : goal.returns
returns c = ends c.loop-i.invariant c.requires c.args.a c.loop-i-test.false c.own-word.ensures
