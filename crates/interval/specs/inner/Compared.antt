-- Two tables of one size, and words compared place by place.
use Rattle.std.specs.Prelude.{ℕ, ◌*◌, ◌≤◌, ◌≡◌, List, Bool, length, get_or}
use Rattle.semiring.specs.Algebra.{betters}
use Rattle.semiring.specs.declared.Algebra.{Algebra}
use Rattle.ranges.specs.Tests.{some_below}

-- Two memories of n by n words, with n in the range of the elimination.
pub record Pair (n : ℕ) (best worst : List ℕ) : Type 0 where
  pub most : n ≤ 128
  pub best_words : length best ≡ n * n
  pub worst_words : length worst ≡ n * n

-- Whether one of the words betters the other at its place.
unfoldable pub some_betters : Algebra → List ℕ → List ℕ → Bool
some_betters a words others = some_below (length words) (λ p. betters a (get_or words p 0) (get_or others p 0))
