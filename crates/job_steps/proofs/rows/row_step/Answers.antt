-- The answer is that of the row's tests, where a row is due.
use Rattle.std.proofs.Common.{◌≡◌}
use Rattle.std.proofs.lemmas.Result.{err_from_is_err_and}
use borrow.Author.Tests.{le-leb, lt-leb}
use Rattle.job_reading.specs.Steps.{due_after_row}
use Rattle.job_steps.proofs.Turns.{row_stops, row_goes, row_not_due}
use Rattle.job_steps.proofs.rows.row_step.Goals as goal
use Rattle.job_steps.proofs.rows.row_step.Goals.{then-s-le1, else-s-le1}

pub returns-in_err-row_tests-in-Row : goal.returns-in_err-row_tests-in-Row
returns-in_err-row_tests-in-Row c =
    let p = err_from_is_err_and c.from_residual.result c.from_residual.ensures.1 in
    rw (p.1, p.2) (row_stops c.args.s c.args.found.tally c.in-Row.is c.in_err-row_tests-in-Row.ensures)

pub returns-after-s-le1 : goal.returns-after-s-le1
returns-after-s-le1 c =
    let after : c.if-s-le1.result ≡ due_after_row c.args.s.left = elim c.if-s-le1.branch [
      | then-s-le1 w ↦ rw (le-leb _ _ w.if-s-le1.true) w.result-is
      | else-s-le1 w ↦ rw (lt-leb _ _ w.if-s-le1.false) w.result-is
    ] in
    row_goes c.args.s c.args.found.tally c.in-Row.is c.in_ok-row_tests-in-Row.ensures after c.saturating_sub.ensures

pub returns-in_default : goal.returns-in_default
returns-in_default c = row_not_due c.in_default.not-Row c.undue.ensures
