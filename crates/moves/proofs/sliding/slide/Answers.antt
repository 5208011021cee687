-- Whole planes move where every cell makes a step, as the two tests tell.
use Rattle.std.proofs.Common.{sym}
use Rattle.moves.proofs.Planes.{planes_slid}
use Rattle.moves.proofs.sliding.slide.Goals as goal

pub returns-then-live-2 : goal.returns-then-live-2
returns-then-live-2 c =
    planes_slid (record { turn = c.args.front.on_tick; long = c.requires }) (sym c.if-live.ensures) (sym c.if-live-2.ensures) c.shift.ensures c.shift-then-live-2.ensures
