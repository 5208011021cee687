-- Tables of words: as functions of row and column, and as the words of a memory, row by row.
use Rattle.std.specs.Prelude.{ℕ, ◌+◌, ◌*◌, ◌/◌, ◌%◌, ◌<◌, ◌≡◌, List, cond, length, get_or, eqb}
use Rattle.memory.specs.Lists.{list_of}
use Rattle.semiring.specs.Algebra.{own_of}
use Rattle.semiring.specs.declared.Algebra.{Algebra}

-- "row is from, column is to"
abbrev pub Table : Type 0
Table = ℕ → ℕ → ℕ

-- Entry (i, j) of a memory of n by n words.
abbrev pub entries : ℕ → List ℕ → Table
entries n w i j = get_or w (i * n + j) 0

-- The memory of an n by n table.
abbrev pub row_by_row : ℕ → Table → List ℕ
row_by_row n t = list_of (n * n) (λ p. t (p / n) (p % n))

-- The memory l holds the n by n table t.
pub record Holds (n : ℕ) (t : Table) (l : List ℕ) : Type 0 where
  pub size : length l ≡ n * n
  pub word : (i j : ℕ) → i < n → j < n → entries n l i j ≡ t i j

-- "the table with its diagonal set": "The diagonal given is never read as a link: it counts as the own word."
abbrev pub with_own : Algebra → Table → Table
with_own a t i j = cond (eqb i j) (own_of a) (t i j)
