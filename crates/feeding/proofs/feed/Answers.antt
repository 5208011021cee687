use Rattle.feeding.proofs.FedWords.{feed_goes_on}
use Rattle.feeding.proofs.feed.Goals as goal

pub loop-x-preserved : goal.loop-x-preserved
loop-x-preserved c = feed_goes_on c.requires c.loop-x.invariant c.loop-x-test.true c.fed.ensures c.fed-in-loop-x.ensures
