-- No digit, one more after those of n / 10, or one.
use Rattle.text.proofs.Numerals.{digits_none, digits_one, digits_more}
use Rattle.text.proofs.page.Page.+digits.Goals as goal

pub returns-then-most-lt1 : goal.returns-then-most-lt1
returns-then-most-lt1 t c = search digits_none

pub returns-then-n-ge10 : goal.returns-then-n-ge10
returns-then-n-ge10 t c = search digits_more

pub returns-else-n-ge10 : goal.returns-else-n-ge10
returns-else-n-ge10 t c = search digits_one
