-- After t ticks their lines are printed.
use Rattle.text.specs.Joined.{joined}
use Rattle.text.specs.inner.Printed.{Printed}
use Rattle.sheet_ticks.specs.inner.Leaving.{lines_on}
use Rattle.sheet_ticks.proofs.tick_lines.put_ticks.Given as goal

abbrev pub invariant-loop-t : goal.invariant-loop-t
invariant-loop-t l = Printed l.initial.page (joined l.t (lines_on l.jobs)) l.page
