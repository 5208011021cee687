-- A line leads on, or to the answer that the definition gives.
use Rattle.std.proofs.Common.{refl}
use Rattle.job_text.proofs.Follows.{reached_start, reached_on, reached_stop, reached_end}
use Rattle.job_text.proofs.read_lines.Goals as goal

pub loop-from-init : goal.loop-from-init
loop-from-init c =
    reached_start c.args.text.now c.args.algebras.now c.args.sizes.now c.args.weights.now c.beginning-s.result c.beginning-s.ensures
    c.requires.all_cleared

pub returns-in-Err : goal.returns-in-Err
returns-in-Err c = reached_stop c.loop-from.invariant c.loop-from-test.true c.until-end.ensures c.advance.ensures c.in-Err.is refl

pub loop-from-preserved : goal.loop-from-preserved
loop-from-preserved c =
    reached_on c.loop-from.invariant c.loop-from-test.true c.until-end.ensures c.advance.ensures c.in-Ok.is c.advance.auto.algebras
    c.advance.auto.sizes c.advance.auto.weights

pub returns : goal.returns
returns c = reached_end c.loop-from.invariant c.loop-from-test.false c.finish.ensures
