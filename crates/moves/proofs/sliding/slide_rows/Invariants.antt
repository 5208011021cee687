-- The rows from i on have moved, and s is the turn of the first cell of the row above them.
use Rattle.turns.specs.Turn.{step_of}
use Rattle.moves.proofs.RowsUp.{Sliding}
use Rattle.moves.proofs.sliding.slide_rows.Given as goal

abbrev pub invariant-loop-i : goal.invariant-loop-i
invariant-loop-i l = Sliding l.n l.count (step_of l.n l.fn.front.head) l.initial.planes l.i l.s l.planes
