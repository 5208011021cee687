-- The layout, row by row: a row is decoded whole, then its word on the diagonal is set to the own word.
use Prim.Native.Nat.{ℕ, ◌+◌, ◌*◌, ◌-◌, ◌<◌, ◌≤◌, zero-le}
use native.Mathlib.Nat.{add-sub_cancel_left}
use native.Mathlib.Decide.{dec_lt, ℕ_discrete}
use native.Mathlib.Omega.{arith}
use mathlib.Core.Path.{◌≡◌, refl, sym, ap, ◌∙◌}
use mathlib.Core.List.{List}
use mathlib.Core.Bool.{cond}
use lib.Arith.{digits_div, digits_mod}
use lib.Dec.{ltb}
use lib.ListN.{length, get_or, set, take, drop, length-set}
use lib.Seq.{get_or-set_same, get_or-set_other}
use borrow.Author.Tests.{eq-eqb, ne_eqb, lt-ltb, le-ltb}
use Rattle.memory.specs.Lists.{replaced}
use Rattle.memory.specs.Walked.{Walked}
use Rattle.memory.proofs.Geometry.{row_fits}
use Rattle.memory.proofs.Part.{part_length, replaced_length, replaced_before, replaced_inside, replaced_after}
use Rattle.memory.proofs.Walk.{walked_to, spanned_as}
use Rattle.semiring.specs.Algebra.{own_of}
use Rattle.semiring.specs.declared.Algebra.{Algebra}
use Rattle.table_layout.proofs.Diagonal.{owned}
use Rattle.byte_tables.specs.Bytes.{decoded}
use Rattle.byte_tables.proofs.Parts.{part_size, part_decoded}
use Rattle.stride_eight.specs.Strided.{strided, LaidRows, ToLayOutRows}
use Rattle.stride_eight.specs.claims.Rows.{EveryRow}

in_table : {n rows : ℕ} {weights table : List ℕ} (i : ℕ) → ToLayOutRows n rows weights table → i < rows → i < n
in_table i asked h = omega (arith, asked.steps)

-- Rows 0 to i - 1 were laid out over `old`, and the memory is l.
pub record Laying (own n rows : ℕ) (weights old : List ℕ) (i : ℕ) (l : List ℕ) : Type 0 where
  pub count : i ≤ rows
  pub walked : Walked (strided n (owned own n (decoded weights))) old (i * 8) l

module _ {own n rows : ℕ} {weights old : List ℕ} {i : ℕ} {l : List ℕ} (c : Laying own n rows weights old i l) (asked : ToLayOutRows n rows weights old) where
  pub words : length l ≡ 64
  words = c.walked.size ∙ asked.table_fit

  pub to_decode : i < rows
      → length (take (2 * (i * n) + 2 * n - 2 * (i * n)) (drop (2 * (i * n)) weights)) ≡ 2 * length (take (i * 8 + n - i * 8) (drop (i * 8) l))
  to_decode h =
      let below : i < n = in_table i asked h in
      let bytes = part_length (2 * (i * n)) (2 * (i * n) + 2 * n - 2 * (i * n)) weights (omega (arith, row_fits below, asked.weights_fit)) in
      let row = part_length (i * 8) (i * 8 + n - i * 8) l (omega (arith, words, asked.most)) in
      omega (arith, bytes, row)

  pub goes_on : {new : List ℕ} → i < rows → new ≡ decoded (take (2 * (i * n) + 2 * n - 2 * (i * n)) (drop (2 * (i * n)) weights))
      → Laying own n rows weights old (i + 1) (set (replaced (i * 8) (i * 8 + n - i * 8) new l) (i * 8 + i) own)
  goes_on {new} h d = record {
    count = omega arith;
    walked = record {
      size = length-set row (i * 8 + i) own ∙ replaced_length (i * 8) w l fits new size ∙ c.walked.size;
      inside = λ p u k. at p k (dec_lt p (i * 8));
      before = λ p k. absurd (omega arith);
      after = λ p k.
          get_or-set_other row (i * 8 + i) p own 0 (λ e. omega (arith, below, asked.most))
          ∙ replaced_after (i * 8) w l fits new size p (omega (arith, asked.most))
          ∙ c.walked.after p (omega arith);
    };
  }
    where
      below : i < n
      below = in_table i asked h

      w : ℕ
      w = i * 8 + n - i * 8

      width : w ≡ n
      width = add-sub_cancel_left (i * 8) n

      row : List ℕ
      row = replaced (i * 8) w new l

      fits : i * 8 + w ≤ length l
      fits = omega (arith, words, asked.most, below, width)

      u : ℕ
      u = 2 * (i * n) + 2 * n - 2 * (i * n)

      twice : u ≡ 2 * n
      twice = add-sub_cancel_left (2 * (i * n)) (2 * n)

      inside : 2 * (i * n) + u ≤ length weights
      inside = omega (arith, row_fits below, asked.weights_fit, twice)

      size : length new ≡ w
      size = ap length d ∙ part_size weights (i * n) n (2 * (i * n)) u refl twice inside ∙ sym width

      word : (j : ℕ) → j < n → get_or new j 0 ≡ get_or (decoded weights) (i * n + j) 0
      word j k = ap (λ (x : List ℕ). get_or x j 0) d ∙ part_decoded weights (i * n) n (2 * (i * n)) u refl twice inside j k

      -- column j of the row
      column : (j : ℕ) → j < 8 → Dec (j ≡ i) → Dec (j < n)
          → get_or (set row (i * 8 + i) own) (i * 8 + j) 0 ≡ cond (ltb j n) (owned own n (decoded weights) i j) (get_or old (i * 8 + j) 0)
      column j k (yes e) m =
          rw (e, lt-ltb i n below, eq-eqb i i refl)
          (get_or-set_same row (i * 8 + i) own 0 (omega (arith, replaced_length (i * 8) w l fits new size, words, below, asked.most)))
      column j k (no e) (yes m) =
          rw (lt-ltb j n m, ne_eqb i j (λ q. e (sym q)))
          (get_or-set_other row (i * 8 + i) (i * 8 + j) own 0 (λ q. e (omega arith))
          ∙ replaced_inside (i * 8) w l fits new size j (omega (arith, width))
          ∙ word j m)
      column j k (no e) (no m) =
          rw (le-ltb j n (omega arith))
          (get_or-set_other row (i * 8 + i) (i * 8 + j) own 0 (λ q. e (omega arith))
          ∙ replaced_after (i * 8) w l fits new size (i * 8 + j) (omega (arith, width))
          ∙ c.walked.after (i * 8 + j) (omega arith))

      at : (p : ℕ) → p < (i + 1) * 8 → Dec (p < i * 8)
          → get_or (set row (i * 8 + i) own) p 0 ≡ strided n (owned own n (decoded weights)) p (get_or old p 0)
      at p k (yes q) =
          get_or-set_other row (i * 8 + i) p own 0 (λ e. omega arith)
          ∙ replaced_before (i * 8) w l fits new size p q
          ∙ c.walked.inside p zero-le q
      at p k (no q) =
          let j : ℕ = p - i * 8 in
          let e : i * 8 + j ≡ p = omega arith in
          let k' : j < 8 = omega arith in
          rw (← e, digits_div i k', digits_mod i k') (column j k' (ℕ_discrete j i) (dec_lt j n))

  pub ends : (a : Algebra) → rows ≤ i → own ≡ own_of a → LaidRows a n rows (decoded weights) old l
  ends a h e =
      record { walked = spanned_as (walked_to c.walked (omega (arith, c.count))) (λ p u k. ap (λ (x : ℕ). strided n (owned x n (decoded weights)) p (get_or old p 0)) e) }

pub every_row : EveryRow
every_row n rows weights table most weights_fit table_fit steps =
    record { most = most; weights_fit = weights_fit; table_fit = table_fit; steps = steps }
