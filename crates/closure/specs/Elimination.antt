-- Document 01, "Ways and elimination": the elimination.
use Rattle.std.specs.Prelude.{ℕ, zero, suc, List}
use Rattle.semiring.specs.Algebra.{sum_of, product_of}
use Rattle.semiring.specs.declared.Algebra.{Algebra}
use Rattle.closure.specs.Table.{Table, entries, row_by_row, with_own}

-- "each entry (i, j) becomes the sum of itself and the product of (i, k) and (k, j)"
abbrev pub through : Algebra → ℕ → Table → Table
through a k t i j = sum_of a (t i j) (product_of a (t i k) (t k j))

-- "for k from 0 to ..": the table after the passes of the points 0 to m - 1
unfoldable pub passes : Algebra → Table → ℕ → Table
passes a t zero = t
passes a t (suc m) = through a m (passes a t m)

-- "start from the table with its diagonal set; for k from 0 to n-1"
unfoldable pub closure : Algebra → ℕ → List ℕ → Table
closure a n w = passes a (with_own a (entries n w)) n

-- The same as n by n words.
unfoldable pub eliminated : Algebra → ℕ → List ℕ → List ℕ
eliminated a n w = row_by_row n (closure a n w)
