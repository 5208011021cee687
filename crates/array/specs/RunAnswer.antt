-- Document 01, "Where each call turns back", row Run: the number of each answer, 0 for "none otherwise", and the ticks made.
use Rattle.std.specs.Prelude.{ℕ, ◌≡◌, List, Result, Ok, Err}
use Rattle.refusals.specs.Answer.{answer_number}
use Rattle.refusals.specs.declared.Reason.{Reason}
use Rattle.systolic.specs.Run.{Ran}

-- "Run .. returns the ticks made"
abbrev pub run_made : Result ℕ Reason → ℕ
run_made (Ok n) = n
run_made (Err reason) = 0

-- The answer and every lent word after a call are those of the definition.
pub record Answered (answer : Result ℕ Reason) (state scratch results : List ℕ) (due : Ran) : Type 0 where
  pub number : answer_number answer ≡ due.number
  pub made : run_made answer ≡ due.made
  pub state_after : state ≡ due.state
  pub scratch_after : scratch ≡ due.scratch
  pub results_after : results ≡ due.results
