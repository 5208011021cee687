-- A space, then the number.
use Rattle.text.proofs.Printed.{◌then◌}
use Rattle.text.proofs.page.Page.spaced.Goals as goal

pub returns : goal.returns
returns c = c.text.ensures then c.number.ensures
