use Rattle.std.proofs.Common.{◌≡◌, arith}
use Rattle.moves.proofs.RowsUp.{begins, goes_on}
use Rattle.moves.proofs.sliding.slide_rows.Goals as goal

pub loop-i-preserved : goal.loop-i-preserved
loop-i-preserved c =
    goes_on c.loop-i.invariant (omega arith) c.moved-from.ensures c.shift.ensures c.shift-in-loop-i.ensures c.next-s.ensures

pub returns : goal.returns
returns c = let e : c.loop-i.i ≡ 0 = omega arith in (rw e at c.loop-i.invariant).slid

pub loop-i-init : goal.loop-i-init
loop-i-init c = begins (record { turn = c.args.front.on_tick; long = c.requires }) c.to_last-s.ensures
