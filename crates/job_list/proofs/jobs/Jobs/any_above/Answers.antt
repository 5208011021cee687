use Rattle.refusals.proofs.First.{told}
use Rattle.job_list.proofs.Plain.{plain_above}
use Rattle.job_list.proofs.jobs.Jobs.any_above.Goals as goal

pub returns : goal.returns
returns c = search (plain_above, told)
