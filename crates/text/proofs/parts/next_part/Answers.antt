-- After the spaces, the part goes on to the next space; none follows where the line ends with the spaces.
use native.Mathlib.Omega.{arith}
use Rattle.text.proofs.Cuts.{part_here, no_part}
use Rattle.text.proofs.parts.next_part.Goals as goal

pub returns-then-end-start : goal.returns-then-end-start
returns-then-end-start c = no_part c.unspaced-start.ensures c.until-end.ensures c.if-end-start.true

pub returns : goal.returns
returns c = part_here c.unspaced-start.ensures c.until-end.ensures (omega arith)
