-- Better links never make a closed entry worse: one law over all algebras, by which request K9's results are the ends.
use Rattle.std.specs.Prelude.{ℕ, ◌<◌, ◌≡◌, ◌≢◌, List}
use Rattle.semiring.specs.Algebra.{Betters}
use Rattle.semiring.specs.declared.Algebra.{Algebra}
use Rattle.closure.specs.Table.{entries}
use Rattle.closure.specs.Elimination.{closure}
use Rattle.closure.specs.Tests.{elimination_tests}
use Rattle.std.specs.Prelude.{Some as Known}

-- Of two accepted tables: where no link of w betters that of v, no closed entry of w betters that of v. Diagonals don't count.
abbrev pub Monotone : Type 0
Monotone =
    (a : Algebra) (n : ℕ) (v w r s : List ℕ)
    → elimination_tests (Known a) n v r ≡ 0 → elimination_tests (Known a) n w s ≡ 0
    → ((i j : ℕ) → i < n → j < n → i ≢ j → Betters a (entries n w i j) (entries n v i j) → ⊥)
    → (i j : ℕ) → i < n → j < n → Betters a (closure a n w i j) (closure a n v i j) → ⊥
