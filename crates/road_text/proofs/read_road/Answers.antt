-- `road_text::read_road` meets its contract: the buffer is zeros before its length is tested, and stays so where it is refused.
use Rattle.road_table.proofs.Words.{cleared}
use Rattle.road_text.proofs.Readings.{wrong_buffer, right_zeros, right_buffer}
use Rattle.road_text.proofs.read_road.Goals as goal

pub returns-then-table-ne-TABLE_WORDS : goal.returns-then-table-ne-TABLE_WORDS
returns-then-table-ne-TABLE_WORDS c = search (wrong_buffer, cleared, c.if-table-ne-TABLE_WORDS.true)

pub read_cleared-requires : goal.read_cleared-requires
read_cleared-requires c = search (right_zeros, cleared)

pub returns : goal.returns
returns c = search (right_buffer, cleared)
