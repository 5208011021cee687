use Rattle.std.proofs.Common.{arith}
use Rattle.table_layout.proofs.Diagonal.{copied, ends}
use Rattle.table_layout.proofs.lay_out.Goals as goal

pub loop-at-preserved : goal.loop-at-preserved
loop-at-preserved c = copied c.loop-at.invariant c.requires c.loop-at-test.true c.min-to.ensures c.copy.ensures

pub returns : goal.returns
returns c = ends c.loop-at.invariant c.requires c.args.a c.loop-at-test.false c.own-word.ensures

-- the last stretch
pub returns-2 : goal.returns-2
returns-2 c =
    ends (copied c.loop-at.invariant c.requires c.loop-at-test.true c.min-to.ensures c.copy.ensures) c.requires c.args.a (omega arith) c.own-word.ensures
