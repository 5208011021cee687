use Rattle.stage.proofs.Places.{end_room, job_found}
use Rattle.stage.proofs.jobs.job_of.Goals as goal

pub overflow_add-result : goal.overflow_add-result
overflow_add-result c = search end_room

pub returns-then-live : goal.returns-then-live
returns-then-live c = search job_found depth 9
