-- Document 01: "The card's host, written in C, calls the elimination on byte slices, two bytes a word, low byte first; wanted
-- lengths double."
use Rattle.std.specs.Prelude.{ℕ, ◌*◌, List, Bool, cond, length, eqb}
use Rattle.semiring.specs.declared.Algebra.{Algebra}
use Rattle.std.specs.Prelude.{Option, Some as Known, None as Unknown}
use Rattle.closure.specs.Elimination.{eliminated}
use Rattle.refusals.specs.Tests.{first}
use Rattle.byte_tables.specs.Bytes.{decoded, encoded}
use Rattle.closure.specs.Tests.{elimination_table_of}

-- The elimination's tests, where "wanted lengths double".
abbrev pub host_table : Algebra → ℕ → List ℕ → List ℕ → List (Bool × ℕ)
host_table a n w r = elimination_table_of a n (2 * (n * n)) (length w) (length r) (decoded w)

abbrev pub host_tests : Option Algebra → ℕ → List ℕ → List ℕ → ℕ
host_tests Unknown n w r = 1
host_tests (Known a) n w r = first 0 (host_table a n w r)

-- "Memory stays as it was" at a refusal.
abbrev pub host_after : Option Algebra → ℕ → List ℕ → List ℕ → List ℕ
host_after Unknown n w r = r
host_after (Known a) n w r = cond (eqb (host_tests (Known a) n w r) 0) (encoded (eliminated a n (decoded w))) r
