-- What a call of Start answers and leaves: document 01, "Where each call turns back", row Start, 0 for "none otherwise".
use Rattle.std.specs.Prelude.{ℕ, ◌≡◌, List, Result}
use Rattle.refusals.specs.Answer.{answer_number}
use Rattle.refusals.specs.declared.Reason.{Reason}
use Rattle.systolic.specs.Start.{start_tests, state_after_start}

pub record StartLeft (answer : Result (Unit {0}) Reason) (algebras : List ℕ) (order : ℕ) (sizes weights state state' : List ℕ) : Type 0 where
  pub outcome : answer_number answer ≡ start_tests algebras order sizes weights state
  pub memory : state' ≡ state_after_start algebras order sizes weights state
