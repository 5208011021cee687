-- `print_road` meets its contract: what is printed from the page's first byte on is the page overwritten by the text.
use Rattle.std.proofs.Common.{rules}
use Rattle.text.proofs.Printed.{printed_page}
use Rattle.road_sheet.proofs.print_road.Goals as goal

pub returns-clause-memory : goal.returns-clause-memory
returns-clause-memory c = search (rules, printed_page)
