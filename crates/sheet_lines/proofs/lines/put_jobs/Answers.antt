-- `put_jobs` meets its contract: its texts and numbers, printed one after another, are the line.
use Rattle.text.proofs.Printed.{◌then◌}
use Rattle.sheet_lines.proofs.lines.put_jobs.Goals as goal

pub returns : goal.returns
returns c = c.text.ensures then c.spaced.ensures then c.text-2.ensures then c.spaced-2.ensures then c.text-3.ensures
