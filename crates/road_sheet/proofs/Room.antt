-- A bound on the length of every text.
use Prim.Native.Nat.{ℕ, ◌+◌, ◌*◌, ◌≤◌, min}
use native.Mathlib.Omega.{arith}
use mathlib.Core.Path.{◌≡◌, refl, ◌∙◌}
use mathlib.Core.List.{List, ◌++◌}
use mathlib.Core.Bool.{Bool, true, false, cond}
use lib.ListN.{length, drop, length-append}
use lib.Seq.{take_all}
use lib.Dec.{eqb}
use Rattle.memory.proofs.Geometry.{square_fits}
use Rattle.semiring.specs.Algebra.{none_word_of}
use Rattle.semiring.specs.declared.Algebra.TheVariants.{Distance}
use Rattle.closure.specs.Table.{entries}
use Rattle.text.specs.Ascii.{ascii}
use Rattle.text.specs.Page.{overwritten}
use Rattle.text.proofs.Lengths.{joined_most}
use Rattle.text.proofs.Numerals.{numeral_most}
use Rattle.text.proofs.Words.{unless_length}
use Rattle.road_text.specs.Reading.{RoadReading, refused, accepted, road_reading_of}
use Rattle.road_sheet.specs.Rows.{shown_word, after_word, entry_text, row_line, table_text, refused_text}
use Rattle.road_sheet.specs.Sheet.{closed_table, printed, road_sheet_of}
use Rattle.road_sheet.specs.claims.Shown.{page_bytes, Room}
use Rattle.road_text.proofs.Whole.{accepted_points}

refused_length : (number : ℕ) → length (refused_text number) ≤ 16
refused_length number = simp length-append (omega (arith, numeral_most 5 number))

after_length : (b : Bool) → length (cond b (ascii "\n") (ascii " ")) ≤ 1
after_length true = omega arith
after_length false = omega arith

module _ (n : ℕ) (table : List ℕ) where
  entry_length : (i j : ℕ) → length (entry_text n table i j) ≤ 6
  entry_length i j =
      omega (
        arith,
        length-append (shown_word (entries n table i j)) (after_word n j),
        unless_length (entries n table i j) (none_word_of Distance),
        after_length (eqb (j + 1) n),
      )

  row_length : (i : ℕ) → length (row_line n table i) ≤ n * 6
  unfolding row_line
  row_length i = joined_most n (entry_text n table i) 6 (entry_length i)

  table_length : length (table_text n table) ≤ n * (n * 6)
  unfolding table_text
  table_length = joined_most n (row_line n table) (n * 6) row_length

room_by : (file : List ℕ) (r : RoadReading) → road_reading_of 16384 file ≡ r → length (printed file r) ≤ page_bytes
room_by file (refused number) e = omega (arith, refused_length number)
room_by file (accepted n) e =
    let most : n ≤ 128 = (accepted_points 16384 file n e).1 in
    omega (arith, table_length n (closed_table n file), square_fits most)

pub room : Room
room file = room_by file (road_reading_of 16384 file) refl

-- What is printed on a page with that room: the whole text.
module _ (file page : List ℕ) (long : length page ≡ page_bytes) {n : ℕ} (outcome : n ≡ min (length page) (length (road_sheet_of file))) where
  pub whole_length : n ≡ length (road_sheet_of file)
  whole_length = omega (arith, room file)

  pub whole_page : {page' : List ℕ} → page' ≡ overwritten (road_sheet_of file) page → page' ≡ road_sheet_of file ++ drop n page
  whole_page memory =
      let fits : length (road_sheet_of file) ≤ length page = omega (arith, room file) in
      memory ∙ rw (whole_length, take_all (length page) (road_sheet_of file) fits)
