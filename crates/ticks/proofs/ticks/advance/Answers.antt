use Rattle.ticks.proofs.Run.{begins, goes_on, ends}
use Rattle.ticks.proofs.ticks.advance.Goals as goal

pub loop-t-init : goal.loop-t-init
loop-t-init c = (c.mark.ensures, begins c.requires.ready c.requires.from_le_to)

pub loop-t-preserved : goal.loop-t-preserved
loop-t-preserved c =
    let made = c.loop-t.invariant in
    (made.0, goes_on made.1 c.loop-t-test.true c.stage_at-stage.ensures c.tick.auto.edges c.tick.auto.planes c.tick.auto.results c.tick.ensures)

pub returns : goal.returns
returns c = ends c.loop-t.invariant.1 c.loop-t-test.false
