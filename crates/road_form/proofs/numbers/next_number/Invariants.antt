-- The bytes so far are digits, at most ten, and `value` is their number; none of them ends the line.
use Rattle.road_form.proofs.Digits.{Counted}
use Rattle.road_form.proofs.numbers.next_number.Given as goal

abbrev pub invariant-loop-at : goal.invariant-loop-at
invariant-loop-at l = Counted l.text l.from l.start l.value l.at
