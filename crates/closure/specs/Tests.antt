-- Document 01, "Where each call turns back", row Elimination: the number returned (0 for none), and the result after the call.
use Rattle.std.specs.Prelude.{ℕ, ◌*◌, List, [], ◌∷◌, Bool, cond, not, length, eqb}
use Rattle.refusals.specs.Tests.{first, outside}
use Rattle.semiring.specs.Algebra.{top_of}
use Rattle.semiring.specs.Words.{any_above}
use Rattle.semiring.specs.declared.Algebra.{Algebra}
use Rattle.closure.specs.Elimination.{eliminated}
use Rattle.std.specs.Prelude.{Option, Some as Known, None as Unknown}

-- "1 algebra unknown; 2 size; 3 weights not n² words; 4 result not n² words; 5 a reach word above 1, diagonal too"
-- of a length wanted, the lengths that the weights and the result have, and the words of the weights
abbrev pub elimination_table_of : Algebra → ℕ → ℕ → ℕ → ℕ → List ℕ → List (Bool × ℕ)
elimination_table_of a n wanted weights result words =
    (outside 1 128 n, 2)
    ∷ (not (eqb weights wanted), 3)
    ∷ (not (eqb result wanted), 4)
    ∷ (any_above (top_of a) words, 5)
    ∷ []

-- On words the length wanted is n².
abbrev pub elimination_table : Algebra → ℕ → List ℕ → List ℕ → List (Bool × ℕ)
elimination_table a n w r = elimination_table_of a n (n * n) (length w) (length r) w

abbrev pub elimination_tests : Option Algebra → ℕ → List ℕ → List ℕ → ℕ
elimination_tests Unknown n w r = 1
elimination_tests (Known a) n w r = first 0 (elimination_table a n w r)

-- "Memory stays as it was" at a refusal.
abbrev pub result_after : Option Algebra → ℕ → List ℕ → List ℕ → List ℕ
result_after Unknown n w r = r
result_after (Known a) n w r = cond (eqb (elimination_tests (Known a) n w r) 0) (eliminated a n w) r
