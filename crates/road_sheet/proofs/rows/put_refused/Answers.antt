-- `put_refused` meets its contract: its texts and its number, printed one after another, are the line.
use Rattle.text.proofs.Printed.{◌then◌}
use Rattle.road_sheet.proofs.rows.put_refused.Goals as goal

pub returns : goal.returns
returns c = c.text.ensures then c.number.ensures then c.text-2.ensures
