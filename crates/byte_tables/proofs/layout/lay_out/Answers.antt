use Rattle.std.proofs.Common.{arith}
use Rattle.table_layout.proofs.Diagonal.{ends}
use Rattle.byte_tables.proofs.Stretch.{to_decode, decodes}
use Rattle.byte_tables.proofs.layout.lay_out.Goals as goal

pub decode-requires : goal.decode-requires
decode-requires c = to_decode _ c.loop-at.invariant c.requires.0 c.requires.1 c.loop-at-test.true c.min-to.ensures

pub loop-at-preserved : goal.loop-at-preserved
loop-at-preserved c = decodes _ c.loop-at.invariant c.requires.0 c.requires.1 c.loop-at-test.true c.min-to.ensures c.decode.ensures

pub returns : goal.returns
returns c = ends c.loop-at.invariant c.requires.0 c.args.a c.loop-at-test.false c.own-word.ensures

-- the last stretch
pub returns-2 : goal.returns-2
returns-2 c =
    ends (decodes _ c.loop-at.invariant c.requires.0 c.requires.1 c.loop-at-test.true c.min-to.ensures c.decode.ensures) c.requires.0 c.args.a (omega arith)
    c.own-word.ensures
