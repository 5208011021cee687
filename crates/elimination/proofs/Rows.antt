-- A loop over the rows of a table that lends each row to a walk.
use Prim.Native.Nat.{ℕ, ◌+◌, ◌*◌, ◌-◌, ◌/◌, ◌%◌, ◌<◌, ◌≤◌, zero-le}
use native.Mathlib.Nat.{zero-mul, add-sub_cancel_left}
use native.Mathlib.Decide.{dec_lt}
use native.Mathlib.Omega.{arith}
use mathlib.Core.Path.{◌≡◌, sym, ap, ◌∙◌}
use mathlib.Core.List.{List, ◌++◌}
use lib.Arith.{digits_div, digits_mod}
use lib.ListN.{length, get_or, take, drop}
use lib.Seq.{get_or-take, get_or-drop, take-add, take_at, drop_at, drop-drop}
use Rattle.semiring.specs.declared.Algebra.{Algebra}
use Rattle.memory.specs.Lists.{replaced}
use Rattle.memory.specs.Walked.{Walked}
use Rattle.memory.proofs.Geometry.{row_fits}
use Rattle.memory.proofs.Part.{part_length, part_word}
use Rattle.memory.proofs.Walk.{walked_none, walked_part, walked_to, walked_drop, walked_all}
use Rattle.closure.specs.Table.{row_by_row}
use Rattle.elimination.specs.inner.Rows.{Square, row_of, rowwise}
use Rattle.relax.specs.Relax.{relaxed, relaxed_twice, PairWalked}
use Rattle.elimination.specs.inner.Passes.{RowsRelaxed, RowsRelaxedTwice}

-- What each word of the memory is to become.
abbrev due : ℕ → (List ℕ → ℕ → ℕ → ℕ) → List ℕ → ℕ → ℕ → ℕ
due n g old p word = rowwise n g old (p / n) (p % n)

-- Row d walked on its own, as `row`, gives the memory's words.
module _ {n : ℕ} (g : List ℕ → ℕ → ℕ → ℕ) {old : List ℕ} (square : Square n old) where
  row_due : {d m : ℕ} {row new : List ℕ} → d < n → row ≡ row_of n old d → n ≤ m → Walked (g row) row m new
      → (j : ℕ) → j < n → get_or new j 0 ≡ due n g old (d * n + j) (get_or old (d * n + j) 0)
  row_due {d} h same long done j k =
      done.inside j zero-le (omega arith)
      ∙ ap (λ (row : List ℕ). g row j (get_or row j 0)) same
      ∙ ap (g (row_of n old d) j) (part_word (d * n) n old (omega (arith, row_fits h, square.words)) j k)
      ∙ rw (digits_div d k, digits_mod d k)

-- two rows, one after the other
pub two_rows : {n : ℕ} {table : List ℕ} (k : ℕ) → Square n table → k + 1 < n → k * n + n + n ≤ length table
two_rows k square below = omega (arith, row_fits below, square.words)

-- Rows 0 to i - 1 of the n by n memory `old` were walked by g, and the memory is l.
pub record RowsWalked (n : ℕ) (g : List ℕ → ℕ → ℕ → ℕ) (old : List ℕ) (i : ℕ) (l : List ℕ) : Type 0 where
  pub count : i ≤ n
  pub walked : Walked (due n g old) old (i * n) l

module _ {n : ℕ} {g : List ℕ → ℕ → ℕ → ℕ} {old : List ℕ} where
  pub begins : RowsWalked n g old 0 old
  begins = record { count = omega arith; walked = rw (zero-mul n) walked_none }

  module _ (square : Square n old) where
    -- the row that is lent, with its end and its width as the code computes them
    pub goes_on : {i : ℕ} {l new : List ℕ} → RowsWalked n g old i l → i < n
        → (let part : List ℕ = take (i * n + n - i * n) (drop (i * n) l) in Walked (g part) part (length part) new)
        → RowsWalked n g old (i + 1) (replaced (i * n) (i * n + n - i * n) new l)
    goes_on {i} {l} {new} c h done =
        let w : ℕ = i * n + n - i * n in
        let same : w ≡ n = add-sub_cancel_left (i * n) n in
        let fits : i * n + w ≤ length old = omega (arith, row_fits h, square.words) in
        let part : take w (drop (i * n) l) ≡ row_of n old i = rw (same, walked_drop c.walked) in
        let long : length (take w (drop (i * n) l)) ≡ w = part_length (i * n) w l (omega (arith, c.walked.size)) in
        record {
          count = omega arith;
          walked = walked_to
              (walked_part w new c.walked fits (done.size ∙ long) (λ j k. row_due g square h part (omega arith) done j (omega arith)))
              (omega arith);
        }

    -- two rows at once
    pub pair_inside : {i : ℕ} {l : List ℕ} → RowsWalked n g old i l → i + 1 < n → i * n + 2 * n ≤ length l
    pair_inside done h = omega (arith, row_fits h, square.words, done.walked.size)

    pub pair_goes_on : {i i' : ℕ} {l new : List ℕ} → RowsWalked n g old i l → i' ≡ i + 2 → i + 1 < n
        → PairWalked n g (take (i * n + 2 * n - i * n) (drop (i * n) l)) n new
        → RowsWalked n g old i' (replaced (i * n) (i * n + 2 * n - i * n) new l)
    pair_goes_on {i} {i'} {l} {new} c e h done =
        let w : ℕ = i * n + 2 * n - i * n in
        let same : w ≡ 2 * n = add-sub_cancel_left (i * n) (2 * n) in
        let fits : i * n + w ≤ length old = omega (arith, row_fits h, square.words) in
        let long : length (take w (drop (i * n) l)) ≡ w = part_length (i * n) w l (omega (arith, c.walked.size)) in
        rw e
        (record {
          count = omega arith;
          walked = walked_to (walked_part w new c.walked fits (done.size ∙ long) (λ j k. at j (omega arith) (dec_lt j n))) (omega arith);
        })
      where
        part : take (i * n + 2 * n - i * n) (drop (i * n) l) ≡ row_of n old i ++ row_of n old (i + 1)
        part =
            let width : i * n + 2 * n - i * n ≡ n + n = omega arith in
            let next : i * n + n ≡ (i + 1) * n = omega arith in
            rw (width, walked_drop c.walked) (rw (drop-drop n (i * n) old, next) at (take-add n n (drop (i * n) old)))

        upper : length (row_of n old i) ≡ n
        upper = part_length (i * n) n old (omega (arith, row_fits h, square.words))

        at : (j : ℕ) → j < 2 * n → Dec (j < n) → get_or new j 0 ≡ due n g old (i * n + j) (get_or old (i * n + j) 0)
        at j k (yes q) =
            sym (get_or-take n new j 0 q)
            ∙ row_due g square (omega arith) (rw part (take_at (row_of n old i) (row_of n old (i + 1)) n upper)) (omega arith) done.upper j q
        at j k (no q) =
            let r : ℕ = j - n in
            let e : n + r ≡ j = omega arith in
            let f : (i + 1) * n + r ≡ i * n + j = omega arith in
            ap (λ (m : ℕ). get_or new m 0) (sym e)
            ∙ sym (get_or-drop n new r 0)
            ∙ row_due g square h (rw part (drop_at (row_of n old i) (row_of n old (i + 1)) n upper)) (omega arith) done.lower r (omega arith)
            ∙ ap (λ (m : ℕ). due n g old m (get_or old m 0)) f

    rows_done : {i : ℕ} {l : List ℕ} → RowsWalked n g old i l → n ≤ i → l ≡ row_by_row n (rowwise n g old)
    rows_done {i} c h =
        let last : i ≡ n = omega (arith, c.count) in
        rw square.words at (walked_all (rw last at c.walked) (sym square.words))

module _ {a : Algebra} {n k i : ℕ} {via old l : List ℕ} (square : Square n old) where
  pub ends : RowsWalked n (relaxed a k via) old i l → n ≤ i → RowsRelaxed a n k via old l
  ends c h = record { words = rows_done square c h }

  pub ends_two : {next : List ℕ} → RowsWalked n (relaxed_twice a k via next) old i l → n ≤ i → RowsRelaxedTwice a n k via next old l
  ends_two c h = record { words = rows_done square c h }
