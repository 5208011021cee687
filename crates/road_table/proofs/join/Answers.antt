-- `road_table::join` meets its contract: the shorter of the word that stands and the arc's.
use Rattle.road_table.proofs.Words.{joined}
use Rattle.road_table.proofs.join.Goals as goal

pub returns : goal.returns
returns c = search joined
