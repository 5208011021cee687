-- Before each turn the first i points stand in the list and the others are ahead.
use Prim.Native.Nat.{◌-◌}
use lib.ListN.{length}
use Rattle.levels.proofs.Following.{Following}
use Rattle.levels.proofs.successors.follow.Given as goal

abbrev pub invariant-loop-v : goal.invariant-loop-v
invariant-loop-v l = Following l.to l.marks l.from l.initial.list l.list l.v l.i

abbrev pub decreases-loop-v : goal.decreases-loop-v
decreases-loop-v l = length l.list - l.i
