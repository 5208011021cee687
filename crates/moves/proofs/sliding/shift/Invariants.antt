-- The words from p on have moved.
use Rattle.std.proofs.Common.{◌≤◌}
use Rattle.moves.specs.Moved.{Moved}
use Rattle.moves.proofs.sliding.shift.Given as goal

abbrev pub invariant-loop-p : goal.invariant-loop-p
invariant-loop-p l = (l.at ≤ l.p) × Moved l.d l.initial.words l.p l.end l.words
