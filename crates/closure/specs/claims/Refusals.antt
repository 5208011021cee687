-- Document 01, "Where each call turns back", row Elimination, read both ways in the paper's own conditions.
use Rattle.std.specs.Prelude.{ℕ, ◌*◌, ◌<◌, ◌≡◌, List, length}
use Rattle.refusals.specs.Conditions.{Conditions, otherwise, test, Exactly, Outside, Words16}
use Rattle.semiring.specs.Named.{named_of}
use Rattle.semiring.specs.Words.{ReachAbove}
use Rattle.closure.specs.Tests.{elimination_tests, result_after}

-- "1 algebra unknown; 2 size; 3 weights not n² words; 4 result not n² words; 5 a reach word above 1, diagonal too"
unfoldable pub elimination_conditions : ℕ → ℕ → List ℕ → List ℕ → Conditions
elimination_conditions algebra n w r =
    test (2 < algebra) 1
    (test (Outside 1 128 n) 2
    (test (length w ≡ n * n → ⊥) 3
    (test (length r ≡ n * n → ⊥) 4
    (test (ReachAbove algebra w) 5
    otherwise))))

abbrev pub EliminationRefusals : Type 0
EliminationRefusals =
    (algebra n : ℕ) (w r : List ℕ) → Words16 w
    → Exactly (elimination_conditions algebra n w r) (elimination_tests (named_of algebra) n w r)

-- "Memory stays as it was" at a refusal.
abbrev pub EliminationKept : Type 0
EliminationKept =
    (algebra n : ℕ) (w r : List ℕ) → (elimination_tests (named_of algebra) n w r ≡ 0 → ⊥) → result_after (named_of algebra) n w r ≡ r
