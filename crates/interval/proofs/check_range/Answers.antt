-- What the checks of one table and of the other and the walk find is what their tests say in a row.
use borrow.Author.Rules.{rules}
use mathlib.Core.Path.{refl}
use Rattle.std.proofs.lemmas.Result.{err_from_is_err_and}
use Rattle.interval.proofs.Checks.{refused_best, refused_worst, refused_inverted, pair, passed}
use Rattle.interval.proofs.check_range.Goals as goal

pub returns-in_err-check : goal.returns-in_err-check
returns-in_err-check c =
    let p = err_from_is_err_and c.from_residual.result c.from_residual.ensures.1 in
    rw (p.1, p.2) (refused_best c.in_err-check.ensures _ refl)

pub returns-in_err-a : goal.returns-in_err-a
returns-in_err-a c =
    let p = err_from_is_err_and c.from_residual-in_err-a.result c.from_residual-in_err-a.ensures.1 in
    rw (p.1, p.2) (refused_worst c.in_ok-check.ensures _ refl c.in_err-a.ensures _ refl)

pub is_inverted-requires : goal.is_inverted-requires
is_inverted-requires c = pair c.in_ok-check.ensures _ refl c.in_ok-a.ensures _ refl

pub returns-then-is_inverted : goal.returns-then-is_inverted
returns-then-is_inverted c = refused_inverted c.in_ok-check.ensures _ refl c.in_ok-a.ensures _ refl _ c.is_inverted.ensures (search rules)

pub returns : goal.returns
returns c = passed c.in_ok-check.ensures _ refl c.in_ok-a.ensures _ refl _ c.is_inverted.ensures (search rules)
