-- `put_table` meets its contract: each word with its byte goes behind those before it, and each row.
use Rattle.text.proofs.Printed.{printed_no_more, printed_next}
use Rattle.road_sheet.proofs.Entries.{entry-last, entry_inner, row_printed, table_printed}
use Rattle.road_sheet.proofs.rows.put_table.Goals as goal
use Rattle.road_sheet.proofs.rows.put_table.Goals.{then-j-n, else-j-n}

pub loop-i-init : goal.loop-i-init
loop-i-init c = search printed_no_more

pub loop-j-init : goal.loop-j-init
loop-j-init c = search printed_no_more

pub loop-j-preserved : goal.loop-j-preserved
loop-j-preserved c =
    printed_next _ _ c.loop-j.invariant
    (elim c.if-j-n.branch [ then-j-n w ↦ search entry-last | else-j-n w ↦ search (entry_inner, w.if-j-n.false) ])

pub loop-i-preserved : goal.loop-i-preserved
loop-i-preserved c = printed_next _ _ c.loop-i.invariant (search row_printed)

pub returns : goal.returns
returns c = search table_printed
