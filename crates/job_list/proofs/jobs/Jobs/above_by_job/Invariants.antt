use Rattle.job_list.proofs.Above.{Seen}
use Rattle.job_list.proofs.jobs.Jobs.above_by_job.Given as goal

abbrev pub invariant-loop-q : goal.invariant-loop-q
invariant-loop-q l = Seen l.self.algebras.now l.self.sizes.now l.self.weights.now l.start l.q
