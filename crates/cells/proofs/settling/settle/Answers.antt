-- The rows up to the head's point are in its pass; those after it are in the pass before, and the first of them is at its last point.
use Rattle.std.proofs.Common.{arith}
use Rattle.turns.proofs.Geometry.{pass_before}
use Rattle.cells.proofs.Halves.{settled_all}
use Rattle.cells.proofs.settling.settle.Goals as goal

pub returns : goal.returns
returns c =
    let behind = pass_before c.args.front.n c.args.front.head.pass (omega arith) in
    settled_all c.args.here c.args.behind c.args.front.count c.args.front.head (omega arith)
    c.add_band.ensures (omega arith) c.add_band-2.ensures (omega arith) c.take_rows.ensures
