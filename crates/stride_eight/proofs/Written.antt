-- The words of the table written as bytes, row by row.
use Prim.Native.Nat.{ℕ, ◌+◌, ◌*◌, ◌-◌, ◌/◌, ◌%◌, ◌<◌, ◌≤◌}
use native.Mathlib.Nat.{add-sub_cancel_left}
use native.Mathlib.Omega.{arith}
use mathlib.Core.Path.{◌≡◌, ap, ◌∙◌}
use mathlib.Core.List.{List}
use lib.ListN.{length, get_or, take, drop}
use Rattle.memory.specs.Lists.{replaced}
use Rattle.memory.specs.Walked.{Walked}
use Rattle.memory.proofs.Geometry.{row_fits}
use Rattle.memory.proofs.Part.{part_length, part_word}
use Rattle.memory.proofs.Walk.{walked_part, walked_to}
use Rattle.closure.specs.Table.{entries, row_by_row}
use Rattle.closure.proofs.Holds.{row_by_row_holds}
use Rattle.byte_tables.specs.Bytes.{encoded}
use Rattle.byte_tables.proofs.Words.{byte_at, length_bytes_of, get_d_encoded, bytes_written}
use Rattle.stride_eight.specs.Strided.{ToEncode}

-- The bytes of rows 0 to i - 1 were written over `old`, and the memory is l.
pub record Writing (n : ℕ) (table old : List ℕ) (i : ℕ) (l : List ℕ) : Type 0 where
  pub count : i ≤ n
  pub walked : Walked (λ q byte. byte_at (row_by_row n (entries 8 table)) q) old (2 * (i * n)) l

module _ {n : ℕ} {table old : List ℕ} {i : ℕ} {l : List ℕ} (c : Writing n table old i l) (asked : ToEncode n table old) where
  pub size : length l ≡ 2 * (n * n)
  size = c.walked.size ∙ asked.result_fit

  module _ (h : i < n) where
    abbrev w : ℕ
    w = i * 8 + n - i * 8

    width : w ≡ n
    width = add-sub_cancel_left (i * 8) n

    fits : i * 8 + w ≤ length table
    fits = omega (arith, width, asked.most, asked.table_fit)

    abbrev u : ℕ
    u = 2 * (i * n) + 2 * n - 2 * (i * n)

    twice : u ≡ 2 * n
    twice = add-sub_cancel_left (2 * (i * n)) (2 * n)

    abbrev row : List ℕ
    row = take w (drop (i * 8) table)

    long : length row ≡ n
    long = part_length (i * 8) w table fits ∙ width

    pub to_encode : length (take (2 * (i * n) + 2 * n - 2 * (i * n)) (drop (2 * (i * n)) l)) ≡ 2 * length (take (i * 8 + n - i * 8) (drop (i * 8) table))
    to_encode =
        let bytes = part_length (2 * (i * n)) u l (omega (arith, row_fits h, size, twice)) in
        omega (arith, bytes, long, twice)

    -- the byte at place j of the row's bytes
    byte : (j : ℕ) → j < 2 * n → byte_at row j ≡ byte_at (row_by_row n (entries 8 table)) (2 * (i * n) + j)
    byte j k =
        let half : (2 * (i * n) + j) / 2 ≡ i * n + j / 2 = omega arith in
        let rest : (2 * (i * n) + j) % 2 ≡ j % 2 = omega arith in
        let below : j / 2 < n = omega arith in
        rw (half, rest, part_word (i * 8) w table fits (j / 2) (omega (arith, width)), (row_by_row_holds n (entries 8 table)).word i (j / 2) h below)

    pub goes_on : {new : List ℕ} → new ≡ encoded (take (i * 8 + n - i * 8) (drop (i * 8) table))
        → Writing n table old (i + 1) (replaced (2 * (i * n)) (2 * (i * n) + 2 * n - 2 * (i * n)) new l)
    goes_on {new} e = record {
      count = omega arith;
      walked = walked_to
          (walked_part u new c.walked (omega (arith, row_fits h, asked.result_fit, twice))
          (ap length e ∙ length_bytes_of row ∙ omega (arith, long, twice))
          (λ j k. ap (λ (x : List ℕ). get_or x j 0) e ∙ get_d_encoded row j (omega (arith, long, twice)) ∙ byte j (omega (arith, twice))))
          (omega (arith, twice));
    }

  pub ends : n ≤ i → l ≡ encoded (row_by_row n (entries 8 table))
  ends h =
      let e : i ≡ n = omega (arith, c.count) in
      let words : length (row_by_row n (entries 8 table)) ≡ n * n = (row_by_row_holds n (entries 8 table)).size in
      bytes_written (row_by_row n (entries 8 table)) (walked_to (rw e at c.walked) (omega (arith, words))) (omega (arith, words, asked.result_fit))
