-- Where this pass and the one before add, all cells of the rows add and none starts.
use Rattle.std.proofs.Common.{sym}
use Rattle.cells.proofs.Added.{band_added}
use Rattle.cells.proofs.summing.add_band.Goals as goal

pub returns-then-sums-2 : goal.returns-then-sums-2
returns-then-sums-2 c =
    band_added c.args.algebra c.requires.0 c.requires.1 (sym c.if-sums.ensures) (sym c.if-sums-2.ensures) c.add.ensures
