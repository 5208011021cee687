-- `print_closed` meets its contract: the elimination does not turn back, and what it leaves is printed.
use Rattle.road_sheet.proofs.Closing.{never_refused}
use Rattle.road_sheet.proofs.print_closed.Goals as goal

pub returns-in_default : goal.returns-in_default
returns-in_default c = absurd (never_refused c.requires c.eliminate.ensures _ c.in_default.is)
