-- K3, row by row: every number of rows up to n is taken.
use Rattle.std.specs.Prelude.{ℕ, ◌*◌, ◌≤◌, ◌≡◌, List, length}
use Rattle.stride_eight.specs.Strided.{ToLayOutRows}

abbrev pub EveryRow : Type 0
EveryRow =
    (n rows : ℕ) (weights table : List ℕ) → n ≤ 8 → length weights ≡ 2 * (n * n) → length table ≡ 64 → rows ≤ n
    → ToLayOutRows n rows weights table
