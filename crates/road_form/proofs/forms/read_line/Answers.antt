-- `road_form::read_line` meets its contract: an arc's line ends where it was read to, any other at the LF that was looked for.
use Rattle.road_form.proofs.Arcs.{plain}
use Rattle.road_form.proofs.forms.read_line.Goals as goal

pub plain_line-requires : goal.plain_line-requires
plain_line-requires c = search plain

pub returns-in-Some : goal.returns-in-Some
returns-in-Some c = c.arc_line.ensures.some c.in-Some.said c.in-Some.is
