-- Each answer is found from the table of tests and what the branches told; what `find` leaves is a way.
use borrow.Author.Rules.{rules}
use mathlib.Core.Path.{refl}
use Rattle.refusals.specs.declared.Reason.TheVariants.{WayUnfit, NoWay}
use Rattle.std.proofs.lemmas.Result.{err_from_is_err_and}
use Rattle.traceback.proofs.Answers.{refused_checks, refused, given, sought, tables}
use Rattle.traceback.proofs.way.Goals as goal

pub returns-in_err-a : goal.returns-in_err-a
returns-in_err-a c =
    let p = err_from_is_err_and c.from_residual.result c.from_residual.ensures.1 in
    rw (p.1, p.2) (refused_checks c.in_err-a.ensures _ refl)

pub returns-then-list-size : goal.returns-then-list-size
returns-then-list-size c = refused c.in_ok-a.ensures _ refl WayUnfit (search rules)

pub returns-then-size-from : goal.returns-then-size-from
returns-then-size-from c = refused c.in_ok-a.ensures _ refl WayUnfit (search rules)

pub returns-then-size-to : goal.returns-then-size-to
returns-then-size-to c = refused c.in_ok-a.ensures _ refl WayUnfit (search rules)

pub is_closed-requires : goal.is_closed-requires
is_closed-requires c = tables c.in_ok-a.ensures _ refl

pub returns-then-not-is_closed : goal.returns-then-not-is_closed
returns-then-not-is_closed c = refused c.in_ok-a.ensures _ refl WayUnfit (search rules)

pub returns-then-closed-from : goal.returns-then-closed-from
returns-then-closed-from c = refused c.in_ok-a.ensures _ refl NoWay (search rules)

pub find-count-requires : goal.find-count-requires
find-count-requires c =
    sought c.in_ok-a.ensures _ refl c.is_closed.result (search rules) (search rules) (search rules) c.is_closed.ensures (search rules)

pub returns : goal.returns
returns c = given c.in_ok-a.ensures _ refl (search rules) c.find-count.ensures
