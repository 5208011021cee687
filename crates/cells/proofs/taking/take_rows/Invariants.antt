-- The rows up to row i have taken, and s is the turn of the first cell of row i.
use Rattle.turns.specs.Turn.{step_of}
use Rattle.cells.specs.Work.{taking}
use Rattle.cells.proofs.Going.{Going}
use Rattle.cells.proofs.taking.take_rows.Given as goal

abbrev pub invariant-loop-i : goal.invariant-loop-i
invariant-loop-i l = Going (taking l.count) l.n l.count (step_of l.n l.fn.front.head) 0 l.n l.initial.planes l.s l.i l.planes
