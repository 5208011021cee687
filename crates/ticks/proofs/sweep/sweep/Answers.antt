-- The cell rule in three steps: what the moves leave is what comes in, and the cells work on it.
use Rattle.ticks.proofs.Swept.{slid_edges, sweep_made}
use Rattle.ticks.proofs.sweep.sweep.Goals as goal

pub enter-requires : goal.enter-requires
enter-requires c = slid_edges c.requires c.slide.ensures

pub returns : goal.returns
returns c = sweep_made c.args.n c.requires c.slide.ensures c.enter.ensures c.settle.ensures
