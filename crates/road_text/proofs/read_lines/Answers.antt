-- `road_text::read_lines` meets its contract: a line more, a line that is refused, and the end.
use Rattle.std.proofs.lemmas.Result.{err_from_is_err_and}
use Rattle.road_text.proofs.Follows.{reached_one, stopped_here, reached_end}
use Rattle.road_text.proofs.read_lines.Goals as goal

pub returns-in_err-s : goal.returns-in_err-s
returns-in_err-s c =
    let p = err_from_is_err_and c.from_residual.result c.from_residual.ensures.1 in
    rw (p.1, p.2) (search (stopped_here, c.in_err-s.was))

pub loop-from-preserved : goal.loop-from-preserved
loop-from-preserved c = search (reached_one, c.in_ok-s.was)

pub returns : goal.returns
returns c = search reached_end
