-- Request K9, where the call turns back: the number returned, 0 for none, and the two results after the call.
use Rattle.std.specs.Prelude.{ℕ, zero, suc, List, [], ◌∷◌, ◌++◌, Bool, false, cond, not, ◌&&◌, ◌||◌, eqb}
use Rattle.refusals.specs.Tests.{first}
use Rattle.semiring.specs.Algebra.{betters}
use Rattle.semiring.specs.declared.Algebra.{Algebra}
use Rattle.closure.specs.Table.{entries}
use Rattle.closure.specs.Elimination.{eliminated}
use Rattle.closure.specs.Tests.{elimination_table}
use Rattle.std.specs.Prelude.{Option, Some as Known, None as Unknown}

-- Whether some number below m meets the test.
unfoldable pub some_below : ℕ → (ℕ → Bool) → Bool
some_below zero test = false
some_below (suc m) test = some_below m test || test m

-- Whether (i, j) is "a link whose worst word betters its best one"; "diagonals don't count"
abbrev pub inverted_at : Algebra → ℕ → List ℕ → List ℕ → ℕ → ℕ → Bool
inverted_at a n best worst i j = not (eqb i j) && betters a (entries n worst i j) (entries n best i j)

unfoldable pub inverted : Algebra → ℕ → List ℕ → List ℕ → Bool
inverted a n best worst = some_below n (λ i. some_below n (λ j. inverted_at a n best worst i j))

-- "A link whose worst word betters its best one is 24, tested last"
abbrev pub inversion_table : Algebra → ℕ → List ℕ → List ℕ → List (Bool × ℕ)
inversion_table a n best worst = (inverted a n best worst, 24) ∷ []

-- "All checks of the elimination are made for the best table, then for the worst.": with the result r for the best table, s for the
-- worst
abbrev pub range_table : Algebra → ℕ → List ℕ → List ℕ → List ℕ → List ℕ → List (Bool × ℕ)
range_table a n best worst r s = elimination_table a n best r ++ (elimination_table a n worst s ++ inversion_table a n best worst)

abbrev pub range_tests : Option Algebra → ℕ → List ℕ → List ℕ → List ℕ → List ℕ → ℕ
range_tests Unknown n best worst r s = 1
range_tests (Known a) n best worst r s = first 0 (range_table a n best worst r s)

-- "give two closed tables": a table's elimination where no test applied; the result as it was at a refusal.
abbrev pub closed_after : Option Algebra → ℕ → ℕ → List ℕ → List ℕ → List ℕ
closed_after Unknown number n w r = r
closed_after (Known a) number n w r = cond (eqb number 0) (eliminated a n w) r
