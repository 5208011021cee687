-- Request K2, where the call turns back: the number returned, 0 for none.
use Rattle.std.specs.Prelude.{ℕ, List, [], ◌∷◌, ◌++◌, Bool, not, length, eqb, leb}
use Rattle.memory.specs.Lists.{same}
use Rattle.refusals.specs.Tests.{first}
use Rattle.semiring.specs.Algebra.{none_word_of}
use Rattle.semiring.specs.declared.Algebra.{Algebra}
use Rattle.closure.specs.Table.{entries}
use Rattle.closure.specs.Elimination.{eliminated}
use Rattle.closure.specs.Tests.{elimination_table}
use Rattle.std.specs.Prelude.{Option, Some as Known, None as Unknown}

-- "a list memory not n words long, a point outside the table, or a closed table that isn't the elimination's, is 19; an entry that is
-- none is 20, tested last": of the links w, the closed table c, two points and the list's memory
abbrev pub further_table : Algebra → ℕ → List ℕ → List ℕ → ℕ → ℕ → List ℕ → List (Bool × ℕ)
further_table a n w c from to list =
    (not (eqb (length list) n), 19)
    ∷ (leb n from, 19)
    ∷ (leb n to, 19)
    ∷ (not (same c (eliminated a n w)), 19)
    ∷ (eqb (entries n c from to) (none_word_of a), 20)
    ∷ []

-- "After the elimination's own checks, with 4 for the closed table"
abbrev pub way_table : Algebra → ℕ → List ℕ → List ℕ → ℕ → ℕ → List ℕ → List (Bool × ℕ)
way_table a n w c from to list = elimination_table a n w c ++ further_table a n w c from to list

abbrev pub way_tests : Option Algebra → ℕ → List ℕ → List ℕ → ℕ → ℕ → List ℕ → ℕ
way_tests Unknown n w c from to list = 1
way_tests (Known a) n w c from to list = first 0 (way_table a n w c from to list)
