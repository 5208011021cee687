-- The answer is that of the line's tests, where a list is due.
use Rattle.std.proofs.lemmas.Result.{err_from_is_err_and}
use Rattle.job_steps.proofs.Turns.{list_stops, list_goes, list_not_due}
use Rattle.job_steps.proofs.lists.list_step.Goals as goal

pub returns-in_err-order-in-List : goal.returns-in_err-order-in-List
returns-in_err-order-in-List c =
    let p = err_from_is_err_and c.from_residual.result c.from_residual.ensures.1 in
    rw (p.1, p.2) (list_stops c.args.s c.args.order c.in-List.is c.in_err-order-in-List.ensures.tested)

pub returns-in_ok-order-in-List : goal.returns-in_ok-order-in-List
returns-in_ok-order-in-List c =
    list_goes c.args.s c.args.order c.in-List.is c.in_ok-order-in-List.ensures.tested c.in_ok-order-in-List.ensures.value

pub returns-in_default : goal.returns-in_default
returns-in_default c = list_not_due c.args.order c.in_default.not-List c.undue.ensures
