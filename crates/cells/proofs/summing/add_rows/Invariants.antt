-- The rows up to row i have added, and s is the turn of the first cell of row i.
use Rattle.std.proofs.Common.{◌+◌}
use Rattle.turns.specs.Turn.{step_of}
use Rattle.cells.specs.Work.{adding}
use Rattle.cells.proofs.Going.{Going}
use Rattle.cells.proofs.summing.add_rows.Given as goal

abbrev pub invariant-loop-i : goal.invariant-loop-i
invariant-loop-i l =
    Going (adding l.algebra l.count) l.n l.count (step_of l.n l.fn.first + l.from) l.from l.to l.initial.planes l.s l.i l.planes
