-- What the passes do to a memory that holds a table.
use Rattle.std.specs.Prelude.{ℕ, ◌+◌, ◌≡◌, List}
use Rattle.semiring.specs.declared.Algebra.{Algebra}
use Rattle.closure.specs.Table.{Table, Holds, row_by_row}
use Rattle.closure.specs.Elimination.{through, passes}
use Rattle.relax.specs.Relax.{relaxed, relaxed_twice}
use Rattle.elimination.specs.inner.Rows.{rowwise}

-- Every row of `old` through point k, whose row is `via`.
pub record RowsRelaxed (a : Algebra) (n k : ℕ) (via old new : List ℕ) : Type 0 where
  pub words : new ≡ row_by_row n (rowwise n (relaxed a k via) old)

-- Every row through k and then k + 1.
pub record RowsRelaxedTwice (a : Algebra) (n k : ℕ) (via next old new : List ℕ) : Type 0 where
  pub words : new ≡ row_by_row n (rowwise n (relaxed_twice a k via next) old)

-- The pass of point k.
pub record Passed (a : Algebra) (n k : ℕ) (old new : List ℕ) : Type 0 where
  pub holds : (t : Table) → Holds n t old → Holds n (through a k t) new

-- The passes of points k and k + 1.
pub record PassedTwice (a : Algebra) (n k : ℕ) (old new : List ℕ) : Type 0 where
  pub holds : (t : Table) → Holds n t old → Holds n (through a (k + 1) (through a k t)) new

-- All passes.
pub record PassedAll (a : Algebra) (n : ℕ) (old new : List ℕ) : Type 0 where
  pub words : (t : Table) → Holds n t old → new ≡ row_by_row n (passes a t n)
