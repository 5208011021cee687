-- The words of a part of the bytes, and the search through the words.
use Prim.Native.Nat.{ℕ, ◌+◌, ◌*◌, ◌/◌, ◌<◌, ◌≤◌}
use native.Mathlib.Omega.{arith}
use mathlib.Core.Path.{◌≡◌, sym, ap, ◌∙◌}
use mathlib.Core.List.{List}
use mathlib.Core.Bool.{Bool, false, ◌||◌}
use lib.Dec.{ltb}
use lib.ListN.{length, get_or, take, drop}
use Rattle.memory.proofs.Any.{Looking, look_begins, look_goes_on, look_ends}
use Rattle.memory.proofs.Part.{part_length, part_word}
use Rattle.refusals.specs.Conditions.{Words16}
use Rattle.semiring.specs.Words.{any_above}
use Rattle.byte_tables.specs.Bytes.{decoded}
use Rattle.byte_tables.proofs.Words.{word_at, length_decoded, length_words_of, get_d_decoded}

-- Words `from` to from + w of the bytes, where their bytes alone are lent; `at` and u are place and width of the bytes.
module _ (bytes : List ℕ) (from w at u : ℕ) (place : at ≡ 2 * from) (width : u ≡ 2 * w) (fits : at + u ≤ length bytes) where
  part_bytes : length (take u (drop at bytes)) ≡ 2 * w
  part_bytes = part_length at u bytes fits ∙ width

  pub part_size : length (decoded (take u (drop at bytes))) ≡ w
  part_size = length_words_of (take u (drop at bytes)) w part_bytes

  pub part_decoded : (j : ℕ) → j < w → get_or (decoded (take u (drop at bytes))) j 0 ≡ get_or (decoded bytes) (from + j) 0
  part_decoded j h =
      let low : at + 2 * j ≡ 2 * (from + j) = omega arith in
      let high : at + (2 * j + 1) ≡ 2 * (from + j) + 1 = omega arith in
      let word : word_at (take u (drop at bytes)) j ≡ word_at bytes (from + j) = rw (part_word at u bytes fits (2 * j) (omega arith), part_word at u bytes fits (2 * j + 1) (omega arith), low, high) in
      get_d_decoded (take u (drop at bytes)) j (omega (arith, part_bytes)) ∙ word ∙ sym (get_d_decoded bytes (from + j) (omega arith))

-- The loop that looks through the words of the bytes, where it has come to word p.
pub record Seeing (top : ℕ) (bytes : List ℕ) (p : ℕ) (found : Bool) : Type 0 where
  pub looking : Looking (ltb top) (decoded bytes) p found

module _ {top : ℕ} {bytes : List ℕ} where
  pub seeing_begins : Seeing top bytes 0 false
  seeing_begins = record { looking = look_begins }

  module _ {p : ℕ} {found : Bool} (c : Seeing top bytes p found) where
    pub seeing_goes_on : {found' : Bool} (word : ℕ) → p < length bytes / 2 → word ≡ word_at bytes p → found' ≡ (found || ltb top word) → Seeing top bytes (p + 1) found'
    seeing_goes_on word h e f = record {
      looking = look_goes_on c.looking (omega (arith, length_decoded bytes))
          (f ∙ ap (λ (x : ℕ). found || ltb top x) (e ∙ sym (get_d_decoded bytes p (omega arith))));
    }

    pub seeing_ends : length bytes / 2 ≤ p → found ≡ any_above top (decoded bytes)
    seeing_ends h = look_ends c.looking (omega (arith, length_decoded bytes))

-- two bytes make a 16-bit word
pub decoded_16 : (bytes : List ℕ) → ((p : ℕ) → p < length bytes → get_or bytes p 0 ≤ 255) → Words16 (decoded bytes)
decoded_16 bytes h p k =
    let e : get_or (decoded bytes) p 0 ≡ word_at bytes p = get_d_decoded bytes p (omega (arith, length_decoded bytes)) in
    omega (arith, h (2 * p) (omega (arith, length_decoded bytes)), h (2 * p + 1) (omega (arith, length_decoded bytes)))
