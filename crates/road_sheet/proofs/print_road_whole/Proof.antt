-- `print_road_whole` meets its contract: no text is longer than the page, so nothing of it is cut off.
use borrow.Author.Rules.{rules}
use Rattle.road_sheet.proofs.Room.{whole_length, whole_page}
use Rattle.road_sheet.proofs.print_road_whole.Statement.{statement}
use Rattle.road_sheet.proofs.print_road_whole.Tie as tie

pub print_road_whole_spec : {M : Type 1} → statement M
print_road_whole_spec = tie.close (tie.spec (λ c κs. search rules) (λ c. (search whole_length, search whole_page)))
