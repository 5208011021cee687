-- Request K9: what a call answers and leaves.
use Rattle.std.specs.Prelude.{ℕ, ◌≡◌, List}
use Rattle.semiring.specs.Named.{named_of}
use Rattle.ranges.specs.Tests.{range_tests, closed_after}

-- "Take two tables .. and give two closed tables.": r is the best table's result and s the worst one's before the call, r' and s' after it.
pub record RangeGiven (number algebra n : ℕ) (best worst r s r' s' : List ℕ) : Type 0 where
  pub outcome : number ≡ range_tests (named_of algebra) n best worst r s
  pub best_memory : r' ≡ closed_after (named_of algebra) number n best r
  pub worst_memory : s' ≡ closed_after (named_of algebra) number n worst s
