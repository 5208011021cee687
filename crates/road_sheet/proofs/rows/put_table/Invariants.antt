-- After i rows they are printed, and after j words of a row they are.
use Rattle.text.specs.Joined.{joined}
use Rattle.text.specs.inner.Printed.{Printed}
use Rattle.road_sheet.specs.Rows.{entry_text, row_line}
use Rattle.road_sheet.proofs.rows.put_table.Given as goal

abbrev pub invariant-loop-i : goal.invariant-loop-i
invariant-loop-i l = Printed l.initial.page (joined l.i (row_line l.n l.table)) l.page

abbrev pub invariant-loop-j : goal.invariant-loop-j
invariant-loop-j l = Printed l.initial.page (joined l.j (entry_text l.n l.table l.i)) l.page
