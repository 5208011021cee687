-- One pass and two passes over the rows of a memory that holds a table, from the rows that they read.
use Prim.Native.Nat.{ℕ, ◌+◌, ◌*◌, ◌-◌, ◌<◌, ◌≤◌, zero-le}
use native.Mathlib.Nat.{add-sub_cancel_left}
use native.Mathlib.Omega.{arith}
use mathlib.Core.Path.{◌≡◌, refl, ap, ◌∙◌}
use mathlib.Core.List.{List, ◌++◌}
use lib.ListN.{length, get_or, take, drop, get_or-append}
use lib.Seq.{get_or-take, length-take-le}
use Rattle.semiring.specs.declared.Algebra.{Algebra}
use Rattle.memory.proofs.Part.{part_length, part_word}
use Rattle.memory.specs.Walked.{Walked}
use Rattle.closure.specs.Table.{Table, Holds, row_by_row}
use Rattle.closure.specs.Elimination.{through}
use Rattle.closure.proofs.Holds.{row_by_row_holds}
use Rattle.relax.specs.Relax.{relaxed, relaxed_twice}
use Rattle.elimination.specs.inner.Rows.{row_of, rowwise}
use Rattle.elimination.specs.inner.Passes.{RowsRelaxed, RowsRelaxedTwice, Passed, PassedTwice}
use Rattle.memory.proofs.Geometry.{row_fits}

-- The first n words are row i of the table.
pub record IsRow (n : ℕ) (t : Table) (i : ℕ) (row : List ℕ) : Type 0 where
  pub word : (j : ℕ) → j < n → get_or row j 0 ≡ t i j

module _ {n : ℕ} {t : Table} {l : List ℕ} (holds : Holds n t l) where
  row_word : (i j : ℕ) → i < n → j < n → get_or (row_of n l i) j 0 ≡ t i j
  row_word i j h k = part_word (i * n) n l (omega (arith, row_fits h, holds.size)) j k ∙ holds.word i j h k

  -- a row lent and copied; `at` and w are its place and n in the words of the code
  pub row_copied : {i : ℕ} {old new : List ℕ} (at w : ℕ) → at ≡ i * n → w ≡ n → i < n
      → (let part : List ℕ = take w (drop at l) in Walked (λ p word. get_or part p 0) old (length part) new)
      → IsRow n t i new
  row_copied {i} at w place same h c =
      let fits : at + w ≤ length l = omega (arith, row_fits h, holds.size) in
      record {
        word = λ j k.
            c.inside j zero-le (omega (arith, part_length at w l fits))
            ∙ part_word at w l fits j (omega arith)
            ∙ ap (λ (m : ℕ). get_or l (m + j) 0) place
            ∙ holds.word i j h k;
      }

module _ (a : Algebra) {n : ℕ} (k : ℕ) {t : Table} (via : List ℕ) (below : k < n) (is_via : IsRow n t k via) where
  -- a row of the table walked by itself, lent as the first n words of a longer memory
  pub row_relaxed : {i : ℕ} (row new : List ℕ) → n ≤ length row → IsRow n t i row
      → (let part : List ℕ = take n row in Walked (relaxed a k via part) part (length part) new)
      → IsRow n (through a k t) i (new ++ drop n row)
  row_relaxed row new long is_row c =
      let size : length (take n row) ≡ n = length-take-le n row long in
      record {
        word = λ j h.
            get_or-append new (drop n row) 0 j (omega (arith, c.size))
            ∙ c.inside j zero-le (omega arith)
            ∙ rw (get_or-take n row j 0 h, get_or-take n row k 0 below, is_row.word j h, is_row.word k below, is_via.word j h);
      }

  pub pass_holds : {l : List ℕ} → Holds n t l → Holds n (through a k t) (row_by_row n (rowwise n (relaxed a k via) l))
  pass_holds {l} holds =
      let new = row_by_row_holds n (rowwise n (relaxed a k via) l) in
      record {
        size = new.size;
        word = λ i j h h'.
            new.word i j h h' ∙ rw (holds.word i j h h', row_word holds i k h below, is_via.word j h');
      }

  pub pass_two_holds : {l : List ℕ} (next : List ℕ) → k + 1 < n → IsRow n (through a k t) (k + 1) next → Holds n t l
      → Holds n (through a (k + 1) (through a k t)) (row_by_row n (rowwise n (relaxed_twice a k via next) l))
  pass_two_holds {l} next below' is_next holds =
      let new = row_by_row_holds n (rowwise n (relaxed_twice a k via next) l) in
      record {
        size = new.size;
        word = λ i j h h'.
            new.word i j h h'
            ∙ rw (
              holds.word i j h h',
              row_word holds i k h below,
              row_word holds i (k + 1) h below',
              is_via.word j h',
              is_via.word (k + 1) below',
              is_next.word j h',
            );
      }

-- The words `from` to `to` of a table, copied to the front of `old`.
abbrev Copied : List ℕ → ℕ → ℕ → List ℕ → List ℕ → Type 0
Copied table from to old row = let part : List ℕ = take (to - from) (drop from table) in Walked (λ p word. get_or part p 0) old (length part) row

-- The pass of point k: its row copied, and then every row relaxed.
pub pass_done : {a : Algebra} {n k : ℕ} {table via₀ via new : List ℕ} → k < n → Copied table (k * n) (k * n + n) via₀ via
    → RowsRelaxed a n k via table new → Passed a n k table new
pass_done {a} {n} {k} {via = via} below copied made = record {
  holds = λ t holds.
      rw made.words
      (pass_holds a k via below (row_copied holds (k * n) _ refl (add-sub_cancel_left (k * n) n) below copied) holds);
}

-- The passes of k and k + 1: their rows copied, the second one relaxed, and then every row relaxed by both.
pub pass_two_done : {a : Algebra} {n k : ℕ} {table via₀ via next₀ next row new : List ℕ} → k + 1 < n → n ≤ length next₀
    → Copied table (k * n) (k * n + n) via₀ via → Copied table (k * n + n) (k * n + n + n) next₀ next
    → (let part : List ℕ = take n next in Walked (relaxed a k via part) part (length part) row)
    → RowsRelaxedTwice a n k via (row ++ drop n next) table new → PassedTwice a n k table new
pass_two_done {a} {n} {k} {via = via} {next = next} {row = row} below room first second relaxes made = record {
  holds = λ t holds.
      let is_via = row_copied holds {i = k} (k * n) _ refl (add-sub_cancel_left (k * n) n) (omega arith) first in
      let is_next = row_copied holds {i = k + 1} (k * n + n) _ (omega arith) (add-sub_cancel_left (k * n + n) n) below second in
      rw made.words
      (pass_two_holds a k via (omega arith) is_via (row ++ drop n next) below
      (row_relaxed a k via (omega arith) is_via next row (omega (arith, second.size)) is_next relaxes)
      holds);
}
