-- The answer is that of the line's tests, where a job is due.
use Rattle.std.proofs.lemmas.Result.{err_from_is_err_and}
use Rattle.job_steps.proofs.Turns.{job_stops, job_goes, job_not_due}
use Rattle.job_steps.proofs.jobs.job_step.Goals as goal

pub returns-in_err-n-in-Job : goal.returns-in_err-n-in-Job
returns-in_err-n-in-Job c =
    let p = err_from_is_err_and c.from_residual.result c.from_residual.ensures.1 in
    rw (p.1, p.2) (job_stops c.args.s c.args.size c.args.algebra c.in-Job.is c.in_err-n-in-Job.ensures.tested)

pub returns-in_ok-n-in-Job : goal.returns-in_ok-n-in-Job
returns-in_ok-n-in-Job c =
    job_goes c.args.s c.args.size c.args.algebra c.in-Job.is c.in_ok-n-in-Job.ensures.tested c.in_ok-n-in-Job.ensures.values.0
    c.in_ok-n-in-Job.ensures.values.1 c.note.ensures

pub returns-in_default : goal.returns-in_default
returns-in_default c = job_not_due c.args.size c.args.algebra c.in_default.not-Job c.undue.ensures
