-- The search begins from the target alone; its levels say that the successors lead from `from` to it, and what they write is a way (Backed).
use Rattle.levels.proofs.Backed.{begins, ahead, found}
use Rattle.levels.proofs.finding.find.Goals as goal

pub reach-requires : goal.reach-requires
reach-requires c = search begins

pub follow-requires : goal.follow-requires
follow-requires c = ahead _ c.requires c.reach.ensures

pub returns : goal.returns
returns c = found _ c.requires c.reach.ensures c.follow.ensures
