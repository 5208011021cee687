use borrow.Author.Rules.{rules}
use Rattle.interval.proofs.Walks.{parts_alike, walk_begins, walk_goes_on, walk_ends}
use Rattle.interval.proofs.inversion.is_inverted.Goals as goal

pub loop-i-init : goal.loop-i-init
loop-i-init c = search walk_begins

pub some_better-found-requires : goal.some_better-found-requires
some_better-found-requires c = search parts_alike

pub loop-i-preserved : goal.loop-i-preserved
loop-i-preserved c = walk_goes_on c.loop-i.invariant (search rules) _ c.some_better-found.ensures (search rules)

pub returns : goal.returns
returns c = walk_ends c.loop-i.invariant (search rules)
