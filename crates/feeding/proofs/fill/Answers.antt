use Rattle.feeding.proofs.FedWords.{fill_done}
use Rattle.feeding.proofs.fill.Goals as goal

pub returns : goal.returns
returns c = fill_done c.requires c.of-band.ensures c.wrap.ensures c.feed.ensures
