-- One digit, or more.
use Rattle.text.proofs.Numerals.{shown_one}
use Rattle.text.proofs.page.Page.number.Goals as goal

pub returns-then-n-lt10 : goal.returns-then-n-lt10
returns-then-n-lt10 c = search shown_one
