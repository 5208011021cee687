use borrow.Author.Rules.{rules}
use Rattle.interval.proofs.Walks.{compare_begins, compare_goes_on, compare_ends}
use Rattle.interval.proofs.inversion.some_better.Goals as goal

pub loop-p-init : goal.loop-p-init
loop-p-init c = search compare_begins

pub loop-p-preserved : goal.loop-p-preserved
loop-p-preserved c = compare_goes_on c.loop-p.invariant _ (search rules) c.is_better-found.ensures (search rules)

pub returns : goal.returns
returns c = compare_ends c.loop-p.invariant (search rules)
