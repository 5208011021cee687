-- The call on bytes: demand 2 of what it leaves, and its table of tests read both ways.
use Rattle.std.specs.Prelude.{ℕ, ◌+◌, ◌*◌, ◌<◌, ◌≤◌, ◌≡◌, List, length, get_or}
use Rattle.refusals.specs.Conditions.{Conditions, otherwise, test, Exactly, Outside}
use Rattle.semiring.specs.Named.{named_of}
use Rattle.semiring.specs.Words.{ReachAbove}
use Rattle.semiring.specs.declared.Algebra.{Algebra}
use Rattle.std.specs.Prelude.{Some as Known}
use Rattle.closure.specs.claims.Demand.{Best}
use Rattle.byte_tables.specs.Bytes.{decoded, encoded}
use Rattle.paths.specs.Bytes.{host_tests, host_after}

-- The words of the bytes of words are the words.
abbrev pub RoundTrip : Type 0
RoundTrip = (words : List ℕ) → decoded (encoded words) ≡ words

-- Demand 2 of the words whose bytes an accepted call leaves.
abbrev pub Demand2Host : Type 0
Demand2Host =
    (number n : ℕ) (w r : List ℕ) → host_tests (named_of number) n w r ≡ 0
    → (a : Algebra) × (named_of number ≡ Known a)
    × ((i j : ℕ) → i < n → j < n
    → Best a n (decoded w) i j (get_or (decoded (host_after (named_of number) n w r)) (i * n + j) 0))

-- Row Elimination of "Where each call turns back", and "wanted lengths double".
unfoldable pub host_conditions : ℕ → ℕ → List ℕ → List ℕ → Conditions
host_conditions algebra n w r =
    test (2 < algebra) 1
    (test (Outside 1 128 n) 2
    (test (length w ≡ 2 * (n * n) → ⊥) 3
    (test (length r ≡ 2 * (n * n) → ⊥) 4
    (test (ReachAbove algebra (decoded w)) 5
    otherwise))))

-- Of a memory of bytes.
abbrev pub HostRefusals : Type 0
HostRefusals =
    (algebra n : ℕ) (w r : List ℕ) → ((p : ℕ) → p < length w → get_or w p 0 ≤ 255)
    → Exactly (host_conditions algebra n w r) (host_tests (named_of algebra) n w r)

-- "Memory stays as it was" at a refusal.
abbrev pub HostKept : Type 0
HostKept = (algebra n : ℕ) (w r : List ℕ) → (host_tests (named_of algebra) n w r ≡ 0 → ⊥) → host_after (named_of algebra) n w r ≡ r
