use Rattle.std.proofs.Common.{◌≡◌, arith}
use Rattle.cells.proofs.Words.{adds_one}
use Rattle.cells.proofs.summing.add.Goals as goal

pub loop-p-preserved : goal.loop-p-preserved
loop-p-preserved c =
    adds_one c.args.algebra c.loop-p.invariant (omega arith) (omega arith) c.requires.3 c.product.ensures c.sum.ensures

pub returns : goal.returns
returns c = let e : c.loop-p.p ≡ c.args.end = omega arith in rw e at c.loop-p.invariant
