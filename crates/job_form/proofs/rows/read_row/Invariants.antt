-- Before each turn the words of the parts so far are counted and stored.
use Rattle.std.proofs.Common.{length}
use Rattle.job_form.proofs.Scans.{Scanned, ahead}
use Rattle.job_form.proofs.rows.read_row.Given as goal

abbrev pub invariant-loop-next : goal.invariant-loop-next
invariant-loop-next l = Scanned l.a l.line l.from l.at l.initial.weights l.weights l.next l.tally l.place

abbrev pub decreases-loop-next : goal.decreases-loop-next
decreases-loop-next l = ahead (length l.line) l.next
