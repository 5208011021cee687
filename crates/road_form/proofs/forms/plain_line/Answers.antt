-- `road_form::plain_line` meets its contract: its first two bytes and its last say which form a line can have.
use native.Mathlib.Omega.{arith}
use Rattle.road_form.proofs.Heads.{comment_line, no_comment, no_problem, problem_head, spaced_end, closed_end, other_line, space_at_end, problem}
use Rattle.road_form.proofs.forms.plain_line.Goals as goal
use Rattle.road_form.proofs.forms.plain_line.Goals.{then-not-starts_with-via-then-not-starts_with, then-not-starts_with-via-else-not-starts_with+then-ends_with}

pub returns-then-starts_with : goal.returns-then-starts_with
returns-then-starts_with c = search comment_line

pub returns-then-not-starts_with : goal.returns-then-not-starts_with
returns-then-not-starts_with c =
    let line = c.args.line.now in
    let other = no_comment line c.starts_with.ensures.value c.if-starts_with.false in
    elim c.then-not-starts_with.branch [
      | then-not-starts_with-via-then-not-starts_with w ↦ other_line line other c.requires (no_problem line c.starts_with-2.ensures.value w.if-not-starts_with.true)
      | then-not-starts_with-via-else-not-starts_with+then-ends_with w ↦
          let (two, spaced, name) = problem_head line c.starts_with-2.ensures.value w.if-not-starts_with.false in
          space_at_end line (omega arith) other (spaced_end line (omega arith) w.ends_with.ensures.value w.if-ends_with.true)
    ]

pub returns : goal.returns
returns c =
    let line = c.args.line.now in
    let (two, spaced, name) = problem_head line c.starts_with-2.ensures.value c.if-not-starts_with.false in
    let closed = closed_end line (omega arith) c.ends_with.ensures.value c.if-ends_with.false in
    let other = no_comment line c.starts_with.ensures.value c.if-starts_with.false in
    rw c.unwrap_or.ensures (problem line two spaced other closed name c.problem_line.ensures)
