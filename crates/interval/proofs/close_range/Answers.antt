-- It turns back as its checks do, and else both tables are closed.
use mathlib.Core.Path.{refl}
use Rattle.std.proofs.lemmas.Result.{err_from_is_err_and}
use Rattle.interval.proofs.Answers.{refused, best_ready, worst_ready, given}
use Rattle.interval.proofs.close_range.Goals as goal

pub returns-in_err-a : goal.returns-in_err-a
returns-in_err-a c =
    let p = err_from_is_err_and c.from_residual.result c.from_residual.ensures.1 in
    rw (p.1, p.2) (refused c.in_err-a.ensures _ refl)

pub eliminate-requires : goal.eliminate-requires
eliminate-requires c = best_ready c.in_ok-a.ensures refl

pub eliminate-requires-2 : goal.eliminate-requires-2
eliminate-requires-2 c = worst_ready c.in_ok-a.ensures refl

pub returns : goal.returns
returns c = given c.in_ok-a.ensures refl c.eliminate.ensures c.eliminate-2.ensures
