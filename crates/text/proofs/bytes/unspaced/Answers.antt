-- `text::unspaced` meets its contract: a space more is passed.
use Rattle.text.proofs.Walks.{spaces_one}
use Rattle.text.proofs.bytes.unspaced.Goals as goal

pub loop-at-preserved : goal.loop-at-preserved
loop-at-preserved c = search spaces_one
