-- `print_whole` meets its contract: no sheet is longer than the page, so nothing of it is cut off.
use borrow.Author.Rules.{rules}
use Rattle.sheet_form.proofs.Room.{whole_length, whole_page}
use Rattle.sheet.proofs.print_whole.Statement.{statement}
use Rattle.sheet.proofs.print_whole.Tie as tie

pub print_whole_spec : {M : Type 1} → statement M
print_whole_spec = tie.close (tie.spec (λ c κs. search rules) (λ c. (search whole_length, search whole_page)))
