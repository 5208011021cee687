-- `road_text::finish` meets its contract: the first test of the end that applies refuses.
use Rattle.refusals.proofs.First.{tests}
use Rattle.road_text.proofs.Follows.{no_points, some_points, ended_refused, ended_points}
use Rattle.road_text.proofs.finish.Goals as goal

pub returns-then-s-lt1 : goal.returns-then-s-lt1
returns-then-s-lt1 c = search (ended_refused, tests, no_points)

pub returns-then-s : goal.returns-then-s
returns-then-s c = search (ended_refused, tests, some_points, c.if-s.true)

pub returns : goal.returns
returns c = search (ended_points, tests, some_points)
