-- The rooms that the byte call makes for its table: the first n² words of one, or rows of eight words.
use Prim.Native.Nat.{ℕ, ◌*◌, ◌≤◌}
use native.Mathlib.Omega.{arith}
use mathlib.Core.Path.{◌≡◌, ap, ◌∙◌}
use mathlib.Core.List.{List}
use lib.ListN.{length, take, replicate, length-replicate}
use lib.Seq.{length-take-le}
use Rattle.semiring.specs.declared.Algebra.{Algebra}
use Rattle.closure.specs.Table.{entries, row_by_row}
use Rattle.closure.specs.Elimination.{eliminated}
use Rattle.table_layout.specs.LaidOut.{laid_out, ToLayOut}
use Rattle.elimination.specs.inner.Passes as passes
use Rattle.elimination.proofs.Eliminates as elimination
use Rattle.byte_tables.specs.Bytes.{decoded, encoded}
use Rattle.byte_tables.proofs.Words.{length_words_of}
use Rattle.stride_eight.specs.Strided.{LaidRows}
use Rattle.stride_eight.specs.inner.Passes as strided-passes
use Rattle.stride_eight.proofs.Eliminates as strided
use Rattle.paths.specs.inner.Room.{Fit}

module _ {n cells : ℕ} {w r : List ℕ} (fit : Fit n 128 w r) (room : n * n ≤ cells) where
  front : length (take (n * n) (replicate {A = ℕ} cells 0)) ≡ n * n
  front = length-take-le (n * n) (replicate {A = ℕ} cells 0) (rw (length-replicate {A = ℕ} cells 0) room)

  pub to_lay_out : ToLayOut n (n * n) (decoded w) (take (n * n) (replicate {A = ℕ} cells 0))
  to_lay_out = record {
    most = fit.size_fits;
    weights_fit = length_words_of w (n * n) fit.weights_fit;
    table_fit = front;
    steps = omega arith;
  }

  pub written : {r' : List ℕ} (a : Algebra) (laid made : List ℕ) → laid ≡ laid_out a n (n * n) (decoded w) (take (n * n) (replicate {A = ℕ} cells 0))
      → passes.PassedAll a n laid made → r' ≡ encoded made → r' ≡ encoded (eliminated a n (decoded w))
  written a laid made lays closes writes =
      writes ∙ ap encoded (elimination.eliminates a n (decoded w) (take (n * n) (replicate {A = ℕ} cells 0)) laid made front lays closes)

-- rows of eight words
pub written_strided : {n : ℕ} {w r r' : List ℕ} → Fit n 8 w r → (a : Algebra) (old laid made : List ℕ) → LaidRows a n n (decoded w) old laid
    → strided-passes.PassedAll a n laid made → r' ≡ encoded (row_by_row n (entries 8 made)) → r' ≡ encoded (eliminated a n (decoded w))
written_strided {n} {w} fit a old laid made lays closes writes =
    writes ∙ ap encoded (strided.eliminates a n (decoded w) old laid made fit.size_fits lays closes)
