use Rattle.emission.proofs.Sent.{send_begins, send_goes_on}
use Rattle.emission.proofs.send.Goals as goal

pub loop-i-init : goal.loop-i-init
loop-i-init c = send_begins c.requires

pub loop-i-preserved : goal.loop-i-preserved
loop-i-preserved c = send_goes_on c.requires c.loop-i.invariant c.loop-i-test.true c.store.auto.part c.store.ensures
