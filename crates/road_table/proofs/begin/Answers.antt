-- `road_table::begin` meets its contract: none in the table's words, then 0 on its diagonal.
use Rattle.road_table.proofs.Words.{laid, begun}
use Rattle.road_table.proofs.begin.Goals as goal

pub returns : goal.returns
returns c = begun (laid c.requires.room (c.fill.ensures.after (λ y e. e))) c.clear_diagonal.ensures
