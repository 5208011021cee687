-- `road_form::problem_line` meets its contract: by whether its first part is `sp`, how many numerals were taken, and whether a part follows.
use Rattle.std.proofs.Common.{sym, ◌∙◌}
use Rattle.road_form.proofs.Lines.{problem_first, problem_third, problem_more, problem_whole}
use Rattle.road_form.proofs.forms.problem_line.Goals as goal

pub returns-then-ne : goal.returns-then-ne
returns-then-ne c = let (found, some) = rw c.in_ok-kind.was at c.next_part.ensures in search (problem_first, found, some)

pub returns-in_err-arcs : goal.returns-in_err-arcs
returns-in_err-arcs c =
    let (found, some) = rw c.in_ok-kind.was at c.next_part.ensures in
    search (problem_third, found, some, c.in_ok-points.was, c.in_err-arcs.was)

pub returns-then-is_some : goal.returns-then-is_some
returns-then-is_some c =
    let (found, some) = rw c.in_ok-kind.was at c.next_part.ensures in
    let more = sym c.is_some.ensures ∙ c.if-is_some.true in
    search (problem_more, found, some, c.in_ok-points.was, c.in_ok-arcs.was, more)

pub returns : goal.returns
returns c =
    let (found, some) = rw c.in_ok-kind.was at c.next_part.ensures in
    let last = sym c.is_some.ensures ∙ c.if-is_some.false in
    search (problem_whole, found, some, c.in_ok-points.was, c.in_ok-arcs.was, last) depth 9
