-- What the passes do to a table in rows of eight words.
use Rattle.std.specs.Prelude.{ℕ, ◌<◌, ◌≡◌, List, get_or}
use Rattle.semiring.specs.Algebra.{sum_of, product_of}
use Rattle.semiring.specs.declared.Algebra.{Algebra}
use Rattle.closure.specs.Table.{Table, entries}
use Rattle.closure.specs.Elimination.{passes}

-- The room holds the n by n table t.
pub record Holds (n : ℕ) (t : Table) (l : List ℕ) : Type 0 where
  pub word : (i j : ℕ) → i < n → j < n → entries 8 l i j ≡ t i j

-- Every row of `old` through point k, whose row is `via`.
pub record RowsRelaxed (a : Algebra) (n k : ℕ) (via old new : List ℕ) : Type 0 where
  pub word : (i j : ℕ) → i < n → j < n → entries 8 new i j ≡ sum_of a (entries 8 old i j) (product_of a (entries 8 old i k) (get_or via j 0))

-- All passes.
pub record PassedAll (a : Algebra) (n : ℕ) (old new : List ℕ) : Type 0 where
  pub holds : (t : Table) → Holds n t old → Holds n (passes a t n) new
