-- From the end, so that the word d places before still stands when it is taken.
use Rattle.std.proofs.Common.{◌≡◌, arith}
use Rattle.moves.proofs.Back.{moved_none, moved_back}
use Rattle.moves.proofs.sliding.shift.Goals as goal

pub loop-p-preserved : goal.loop-p-preserved
loop-p-preserved c = (omega arith, moved_back _ c.loop-p.invariant.1 (omega arith) (omega arith) c.requires (omega arith) (omega arith))

pub returns : goal.returns
returns c = let e : c.loop-p.p ≡ c.args.at = omega (arith, c.loop-p.invariant.0) in rw e at c.loop-p.invariant.1

pub loop-p-init : goal.loop-p-init
loop-p-init c = (c.requires.order, moved_none c.args.d c.args.end c.args.words.now)
