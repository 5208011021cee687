-- `put_ticks` meets its contract: each tick's line goes after those of the ticks before it.
use Rattle.text.proofs.Printed.{printed_no_more, printed_next}
use Rattle.sheet_ticks.proofs.tick_lines.put_ticks.Goals as goal

pub loop-t-init : goal.loop-t-init
loop-t-init c = search printed_no_more

pub loop-t-preserved : goal.loop-t-preserved
loop-t-preserved c = search printed_next
