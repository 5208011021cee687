-- What is due says which bracket it is.
use Rattle.job_steps.proofs.Turns.{empty_list, list_closed, job_closed, close_not_due}
use Rattle.job_steps.proofs.lists.close_step.Goals as goal

pub returns-then-s-eq0 : goal.returns-then-s-eq0
returns-then-s-eq0 c = empty_list c.args.s c.in-Job.is c.if-s-eq0.true

pub returns-else-s-eq0 : goal.returns-else-s-eq0
returns-else-s-eq0 c = list_closed c.args.s c.in-Job.is c.if-s-eq0.false

pub returns-in-Close : goal.returns-in-Close
returns-in-Close c = job_closed c.args.s c.in-Close.is

pub returns-in_default : goal.returns-in_default
returns-in_default c = close_not_due c.in_default.not-Job c.in_default.not-Close c.undue.ensures
