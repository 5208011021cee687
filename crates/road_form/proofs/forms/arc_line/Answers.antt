-- `road_form::arc_line` meets its contract: by how many numerals were taken, and whether the line ends with the last of them.
use Rattle.road_form.proofs.Arcs.{first_missing, second_missing, third_missing, line_goes_on, arc_whole_line}
use Rattle.road_form.proofs.forms.arc_line.Goals as goal

pub returns-in_err-from : goal.returns-in_err-from
returns-in_err-from c = search (first_missing, c.in_err-from.was)

pub returns-in_err-to : goal.returns-in_err-to
returns-in_err-to c = search (second_missing, c.in_ok-from.was, c.in_err-to.was)

pub returns-in_err-length : goal.returns-in_err-length
returns-in_err-length c = search (third_missing, c.in_ok-from.was, c.in_ok-to.was, c.in_err-length.was)

pub returns-then-not-ends_at : goal.returns-then-not-ends_at
returns-then-not-ends_at c = search (line_goes_on, c.in_ok-from.was, c.in_ok-to.was, c.in_ok-length.was) depth 9

pub returns : goal.returns
returns c = search (arc_whole_line, c.in_ok-from.was, c.in_ok-to.was, c.in_ok-length.was) depth 9
