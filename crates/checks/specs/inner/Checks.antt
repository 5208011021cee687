-- What the elimination's checks find.
use Rattle.std.specs.Prelude.{ℕ, ◌≡◌, List, Some, Result, Ok}
use Rattle.refusals.specs.Answer.{answer_number}
use Rattle.refusals.specs.declared.Reason.{Reason}
use Rattle.semiring.specs.Named.{named_of}
use Rattle.semiring.specs.declared.Algebra.{Algebra}
use Rattle.closure.specs.Tests.{elimination_tests}

-- The number is that of the elimination's tests, of the links w and the second table t; where it is 0, the algebra is the one named.
pub record Checks (checked : Result Algebra Reason) (algebra n : ℕ) (w t : List ℕ) : Type 0 where
  pub number : answer_number checked ≡ elimination_tests (named_of algebra) n w t
  pub fit : (a : Algebra) → checked ≡ Ok a → named_of algebra ≡ Some a
