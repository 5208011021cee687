-- `road_form::next_number` meets its contract: the walk ends at a byte that is no digit, at an eleventh, or with the text.
use native.Mathlib.Omega.{arith}
use Rattle.road_form.proofs.Digits.{counted_none, counted_one}
use Rattle.road_form.proofs.Within.{number_spaced, other_low, other_high, other_eleventh, ended_at_lf, ended_with_text}
use Rattle.road_form.proofs.numbers.next_number.Goals as goal

pub loop-at-init : goal.loop-at-init
loop-at-init c = search counted_none

pub returns-in-32 : goal.returns-in-32
returns-in-32 c = search number_spaced

pub returns-in-10 : goal.returns-in-10
returns-in-10 c = search ended_at_lf

pub returns-then-at-start-ge-MOST_DIGITS : goal.returns-then-at-start-ge-MOST_DIGITS
returns-then-at-start-ge-MOST_DIGITS c = search other_eleventh

pub returns-in_default : goal.returns-in_default
returns-in_default c = search other_low

pub returns-in_default-2 : goal.returns-in_default-2
returns-in_default-2 c = search other_high

pub loop-at-preserved : goal.loop-at-preserved
loop-at-preserved c = counted_one c.loop-at.invariant c.from.ensures c.loop-at-test.true (omega arith) (omega arith) c.if-at-start-ge-MOST_DIGITS.false

pub returns : goal.returns
returns c = search ended_with_text
