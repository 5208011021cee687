-- What the elimination on byte slices answers and leaves.
use Rattle.std.specs.Prelude.{ℕ, ◌≡◌, List}
use Rattle.semiring.specs.Named.{named_of}
use Rattle.paths.specs.Bytes.{host_tests, host_after}

pub record EliminatedBytes (answer algebra n : ℕ) (w r r' : List ℕ) : Type 0 where
  pub outcome : answer ≡ host_tests (named_of algebra) n w r
  pub memory : r' ≡ host_after (named_of algebra) n w r
