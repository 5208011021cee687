use Rattle.std.proofs.Common.{◌≡◌, refl, arith}
use Rattle.moves.proofs.Stored.{column_one}
use Rattle.moves.proofs.entering.enter_left.Goals as goal

pub loop-i-preserved : goal.loop-i-preserved
loop-i-preserved c =
    column_one c.args.n c.args.from c.loop-i.i _ c.loop-i.invariant (omega arith) (omega arith) c.requires.long refl

pub returns : goal.returns
returns c = let e : c.loop-i.i ≡ c.args.to = omega arith in rw e at c.loop-i.invariant
