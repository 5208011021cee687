-- What the checks of both tables find.
use Rattle.std.specs.Prelude.{ℕ, ◌≡◌, List, Some, Result, Ok}
use Rattle.refusals.specs.Answer.{answer_number}
use Rattle.refusals.specs.declared.Reason.{Reason}
use Rattle.semiring.specs.Named.{named_of}
use Rattle.semiring.specs.declared.Algebra.{Algebra}
use Rattle.ranges.specs.Tests.{range_tests}

-- The number is that of the range's tests, with the result r for the best table, s for the worst; where it is 0, the algebra is the one named.
pub record RangeChecks (checked : Result Algebra Reason) (algebra n : ℕ) (best worst r s : List ℕ) : Type 0 where
  pub number : answer_number checked ≡ range_tests (named_of algebra) n best worst r s
  pub fit : (a : Algebra) → checked ≡ Ok a → named_of algebra ≡ Some a
