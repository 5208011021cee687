use Rattle.job_list.specs.Jobs.{jobs_of}
use Rattle.stage.specs.Found.{Listed}
use Rattle.ticks.proofs.Run.{Making}
use Rattle.ticks.proofs.ticks.advance.Given as goal

abbrev pub invariant-loop-t : goal.invariant-loop-t
invariant-loop-t l =
    Listed l.jobs.sizes.now l.starts
    × Making (jobs_of l.jobs.algebras.now l.n l.jobs.sizes.now l.jobs.weights.now) l.fn.span.from l.fn.span.to l.t l.initial.planes l.initial.results l.edges l.planes l.results
