-- What a call of the elimination answers and leaves.
use Rattle.std.specs.Prelude.{ℕ, ◌≡◌, List, Result}
use Rattle.refusals.specs.Answer.{answer_number}
use Rattle.refusals.specs.declared.Reason.{Reason}
use Rattle.semiring.specs.Named.{named_of}
use Rattle.closure.specs.Tests.{elimination_tests, result_after}

pub record Eliminated (answer : Result (Unit {0}) Reason) (algebra n : ℕ) (w r r' : List ℕ) : Type 0 where
  pub outcome : answer_number answer ≡ elimination_tests (named_of algebra) n w r
  pub memory : r' ≡ result_after (named_of algebra) n w r
