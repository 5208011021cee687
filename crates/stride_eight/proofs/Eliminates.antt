-- A table laid out row by row, then closed, is the elimination, read without the padding.
use Prim.Native.Nat.{ℕ, ◌+◌, ◌*◌, ◌<◌, ◌≤◌, zero-le}
use native.Mathlib.Omega.{arith}
use mathlib.Core.Path.{◌≡◌, ◌∙◌}
use mathlib.Core.List.{List}
use lib.Arith.{digits_div, digits_mod}
use borrow.Author.Tests.{lt-ltb}
use Rattle.semiring.specs.declared.Algebra.{Algebra}
use Rattle.closure.specs.Table.{entries, row_by_row, with_own}
use Rattle.closure.specs.Elimination.{passes, closure, eliminated}
use Rattle.closure.proofs.Holds.{row_by_row_holds, holds_row_by_row}
use Rattle.stride_eight.specs.Strided.{LaidRows}
use Rattle.stride_eight.specs.inner.Passes.{Holds, PassedAll}

module _ (a : Algebra) (n : ℕ) (w old laid made : List ℕ) (most : n ≤ 8) (lays : LaidRows a n n w old laid) where
  laid_holds : Holds n (with_own a (entries n w)) laid
  laid_holds = record {
    word = λ i j h h'.
        let k : j < 8 = omega arith in
        lays.walked.inside (i * 8 + j) zero-le (omega arith) ∙ rw (digits_div i k, digits_mod i k, lt-ltb j n h');
  }

  pub eliminates : PassedAll a n laid made → row_by_row n (entries 8 made) ≡ eliminated a n w
  unfolding eliminated closure
  eliminates closes =
      let done : Holds n (passes a (with_own a (entries n w)) n) made = closes.holds (with_own a (entries n w)) laid_holds in
      let read = row_by_row_holds n (entries 8 made) in
      holds_row_by_row (record { size = read.size; word = λ i j h h'. read.word i j h h' ∙ done.word i j h h' })
