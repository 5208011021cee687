use Rattle.stage.proofs.Places.{Marked}
use Rattle.stage.proofs.jobs.mark.Given as goal

abbrev pub invariant-loop-q : goal.invariant-loop-q
invariant-loop-q l = Marked l.sizes l.initial.starts l.starts l.q l.at
