-- From the last point it is the first of the same pass.
use Rattle.std.proofs.Common.{arith}
use Rattle.turns.proofs.Geometry.{pass_before}
use Rattle.turns.proofs.turn.Turn.to_last.Goals as goal

pub returns-then-point-n : goal.returns-then-point-n
returns-then-point-n c = record {
  below = omega arith;
  at = omega (arith, pass_before c.args.n c.args.self.pass (omega arith));
}
