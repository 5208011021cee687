-- A table of up to eight points with a stride of eight words from row to row: entry (i, j) is word 8i + j, which is `entries 8`. The words past
-- a row's n are padding.
use Rattle.std.specs.Prelude.{ℕ, ◌*◌, ◌/◌, ◌%◌, ◌≤◌, ◌≡◌, List, cond, ltb, length}
use Rattle.memory.specs.Walked.{Walked}
use Rattle.semiring.specs.declared.Algebra.{Algebra}
use Rattle.closure.specs.Table.{Table, entries, with_own}

pub record Room (n : ℕ) (table : List ℕ) : Type 0 where
  pub most : n ≤ 8
  pub words : length table ≡ 64

-- What is to stand at place p: the entry of the table, and in the padding what stood there.
abbrev pub strided : ℕ → Table → ℕ → ℕ → ℕ
strided n t p word = cond (ltb (p % 8) n) (t (p / 8) (p % 8)) word

-- K3, row by row: the first rows are those of the table with its diagonal set, and the other words are as they were.
pub record LaidRows (a : Algebra) (n rows : ℕ) (weights old new : List ℕ) : Type 0 where
  pub walked : Walked (strided n (with_own a (entries n weights))) old (rows * 8) new

-- What the layout asks of the bytes of the weights and the room for the table.
pub record ToLayOutRows (n rows : ℕ) (weights table : List ℕ) : Type 0 where
  pub most : n ≤ 8
  pub weights_fit : length weights ≡ 2 * (n * n)
  pub table_fit : length table ≡ 64
  pub steps : rows ≤ n

-- What the encoding asks.
pub record ToEncode (n : ℕ) (table result : List ℕ) : Type 0 where
  pub most : n ≤ 8
  pub table_fit : length table ≡ 64
  pub result_fit : length result ≡ 2 * (n * n)
