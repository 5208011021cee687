-- A turn writes the words that `relaxed_twice` says of each row alone.
use Rattle.relax.proofs.Pairs.{goes_on}
use Rattle.relax.proofs.relax_pair.Goals as goal

pub loop-p-preserved : goal.loop-p-preserved
loop-p-preserved c = goes_on c.loop-p.invariant c.loop-p-test.true c.through.ensures c.through-upper.ensures c.through-in-loop-p.ensures c.through-lower.ensures
