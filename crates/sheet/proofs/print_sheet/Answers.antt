-- `print_sheet` meets its contract: what is printed from the page's first byte on is the page overwritten by the sheet.
use Rattle.std.proofs.Common.{rules}
use Rattle.text.proofs.Printed.{printed_page}
use Rattle.sheet.proofs.print_sheet.Goals as goal

pub returns-clause-memory : goal.returns-clause-memory
returns-clause-memory c = search (rules, printed_page)
