-- Document 02, K3: "for every m up to n², after m steps the result's first m words are those of the table with its diagonal set, and
-- the others are still as lent."
use Rattle.std.specs.Prelude.{ℕ, ◌*◌, ◌≤◌, ◌≡◌, List, ◌++◌, length, take, drop}
use Rattle.semiring.specs.declared.Algebra.{Algebra}
use Rattle.closure.specs.Table.{entries, row_by_row, with_own}

-- The result after m steps, where it was lent as `old`.
abbrev pub laid_out : Algebra → ℕ → ℕ → List ℕ → List ℕ → List ℕ
laid_out a n m weights old = take m (row_by_row n (with_own a (entries n weights))) ++ drop m old

-- What `lay_out` asks: a size of at most 128, both lengths fit it, and m is at most n².
pub record ToLayOut (n m : ℕ) (weights table : List ℕ) : Type 0 where
  pub most : n ≤ 128
  pub weights_fit : length weights ≡ n * n
  pub table_fit : length table ≡ n * n
  pub steps : m ≤ n * n
