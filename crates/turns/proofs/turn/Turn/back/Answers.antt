-- A step back from point 0 is the last point of the pass before.
use Rattle.std.proofs.Common.{arith}
use Rattle.turns.proofs.Geometry.{pass_before, pass_some}
use Rattle.turns.proofs.turn.Turn.back.Goals as goal

pub returns-else-point-gt0 : goal.returns-else-point-gt0
returns-else-point-gt0 c = record {
  below = omega arith;
  at = omega (arith, pass_before c.args.n c.args.self.pass (pass_some c.args.n c.args.self.pass (omega arith)));
}
