-- What a walk over the rows of a table does.
use Rattle.std.specs.Prelude.{ℕ, ◌*◌, ◌≤◌, ◌≡◌, List, length, take, drop}
use Rattle.closure.specs.Table.{Table, entries}

-- A memory of n by n words, with n in the range of the elimination.
pub record Square (n : ℕ) (l : List ℕ) : Type 0 where
  pub most : n ≤ 128
  pub words : length l ≡ n * n

-- Row i of a memory.
abbrev pub row_of : ℕ → List ℕ → ℕ → List ℕ
row_of n l i = take n (drop (i * n) l)

-- Each row is walked by g, which is given the row, the column and the word there.
abbrev pub rowwise : ℕ → (List ℕ → ℕ → ℕ → ℕ) → List ℕ → Table
rowwise n g l i j = g (row_of n l i) j (entries n l i j)
