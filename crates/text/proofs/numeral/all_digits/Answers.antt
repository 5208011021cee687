-- `text::all_digits` meets its contract: the walk ends at a byte that is no digit, or with the part.
use Rattle.std.proofs.Common.{rules}
use Rattle.std.proofs.lemmas.Iterator.{cases_from_all, YieldsList-from_slice}
use Rattle.std.specs.Int.{IsInRange, IsOutOfRange}
use borrow.Author.Tests.{tests}
use Rattle.text.proofs.Digits.{digits_told}
use Rattle.text.proofs.numeral.all_digits.Goals as goal

pub returns : goal.returns
returns c =
    digits_told c.args.part.now c.all.result
    (cases_from_all _ _ _ (IsInRange 48 57) (IsOutOfRange 48 57) c.all.ensures.ran (YieldsList-from_slice c.args.part.now cc)
    (λ x q k. search (rules, tests))
    (λ x q k. search (rules, tests)))
