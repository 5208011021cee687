-- Before each line, the lines so far have been followed to a state that goes on.
use Rattle.std.proofs.Common.{◌-◌, length}
use Rattle.job_text.proofs.Follows.{Reached}
use Rattle.job_text.proofs.read_lines.Given as goal

abbrev pub invariant-loop-from : goal.invariant-loop-from
invariant-loop-from l =
    Reached l.text l.initial.algebras l.initial.sizes l.initial.weights l.algebras l.sizes l.weights l.s l.from l.line

abbrev pub decreases-loop-from : goal.decreases-loop-from
decreases-loop-from l = length l.text - l.from
