-- The two answers are those of the pass of the first cell and of the pass before.
use Rattle.std.proofs.Common.{arith, rules}
use Rattle.turns.proofs.Spans.{spans_told}
use Rattle.turns.proofs.columns.Columns.moved.Goals as goal

pub returns : goal.returns
returns c =
    let (here, behind, e, f, ends) = c.of.ensures in
    spans_told (omega arith) (omega arith) (search rules) (search rules) ends
