-- A text that ends before its list does ends early.
use Rattle.job_text.proofs.Follows.{early}
use Rattle.job_text.proofs.finish.Goals as goal

pub returns-in_default : goal.returns-in_default
returns-in_default c = record { outcome = early c.args.s.due c.args.s c.args.line c.in_default.not-Nothing }

pub returns-in-Nothing : goal.returns-in-Nothing
returns-in-Nothing c = record { outcome = rw c.in-Nothing.is }
