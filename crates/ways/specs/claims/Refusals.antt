-- Request K2's tests, read both ways in its own conditions, after the elimination's.
use Rattle.std.specs.Prelude.{ℕ, ◌≤◌, ◌≡◌, List, length}
use Rattle.refusals.specs.Conditions.{Conditions, otherwise, test, followed, Exactly, Words16}
use Rattle.semiring.specs.Algebra.{none_word_of}
use Rattle.semiring.specs.Named.{named_of}
use Rattle.semiring.specs.declared.Algebra.{Algebra}
use Rattle.closure.specs.Table.{entries}
use Rattle.closure.specs.Elimination.{eliminated}
use Rattle.closure.specs.claims.Refusals.{elimination_conditions}
use Rattle.ways.specs.Tests.{way_tests}
use Rattle.std.specs.Prelude.{Some as Known}

-- "a list memory not n words long, a point outside the table, or a closed table that isn't the elimination's, is 19; an entry that is
-- none is 20, tested last"
unfoldable pub way_conditions : ℕ → ℕ → List ℕ → List ℕ → ℕ → ℕ → List ℕ → Conditions
way_conditions algebra n w c from to list =
    followed (elimination_conditions algebra n w c)
    (test (length list ≡ n → ⊥) 19
    (test (n ≤ from) 19
    (test (n ≤ to) 19
    (test ((a : Algebra) × (named_of algebra ≡ Known a) × (c ≡ eliminated a n w → ⊥)) 19
    (test ((a : Algebra) × (named_of algebra ≡ Known a) × (entries n c from to ≡ none_word_of a)) 20
    otherwise)))))

abbrev pub WayRefusals : Type 0
WayRefusals =
    (algebra n : ℕ) (w c : List ℕ) (from to : ℕ) (list : List ℕ) → Words16 w
    → Exactly (way_conditions algebra n w c from to list) (way_tests (named_of algebra) n w c from to list)
