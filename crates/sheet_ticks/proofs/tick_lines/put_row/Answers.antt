-- `put_row` meets its contract: a row with no entry of the sum prints nothing, and any other its entry's line.
use Rattle.sheet_ticks.proofs.Leaving.{row_above, row-past, row_printed}
use Rattle.sheet_ticks.proofs.tick_lines.put_row.Goals as goal

pub returns-then-l-i : goal.returns-then-l-i
returns-then-l-i c = search row_above

pub returns-then-l-k : goal.returns-then-l-k
returns-then-l-k c = search row-past

pub returns : goal.returns
returns c = search row_printed
