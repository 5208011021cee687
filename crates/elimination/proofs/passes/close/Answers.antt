use Rattle.std.proofs.Common.{arith, rules}
use Rattle.elimination.proofs.Points.{begins, goes_on, ends_odd, ends_even}
use Rattle.elimination.proofs.passes.close.Goals as goal

pub loop-points-init : goal.loop-points-init
loop-points-init c = search begins

pub loop-points-preserved : goal.loop-points-preserved
loop-points-preserved c =
    goes_on c.loop-points.invariant (omega arith) (omega arith) c.pass_two.ensures (search rules) (search rules) (search rules)

pub returns-then-n-eq1 : goal.returns-then-n-eq1
returns-then-n-eq1 c = ends_odd c.loop-points.invariant (omega arith) (omega arith) c.pass.ensures

pub returns-else-n-eq1 : goal.returns-else-n-eq1
returns-else-n-eq1 c = ends_even c.loop-points.invariant (omega arith)
