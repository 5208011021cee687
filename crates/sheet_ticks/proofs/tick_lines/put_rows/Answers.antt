-- `put_rows` meets its contract: each row's line goes after those of the rows before it.
use Rattle.text.proofs.Printed.{printed_no_more, printed_next}
use Rattle.sheet_ticks.proofs.tick_lines.put_rows.Goals as goal

pub loop-i-init : goal.loop-i-init
loop-i-init c = search printed_no_more

pub loop-i-preserved : goal.loop-i-preserved
loop-i-preserved c = search printed_next
