-- After i rows their lines are printed.
use Rattle.text.specs.Joined.{joined}
use Rattle.text.specs.inner.Printed.{Printed}
use Rattle.sheet_ticks.specs.inner.Leaving.{leaving_line}
use Rattle.sheet_ticks.proofs.tick_lines.put_rows.Given as goal

abbrev pub invariant-loop-i : goal.invariant-loop-i
invariant-loop-i l = Printed l.initial.page (joined l.i (leaving_line l.algebra l.l l.part)) l.page
