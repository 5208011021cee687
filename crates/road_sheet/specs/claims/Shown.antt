-- What is printed for a file that is accepted, and that all of it fits the program's page.
use Rattle.std.specs.Prelude.{ℕ, ◌<◌, ◌≤◌, ◌≡◌, ◌≢◌, List, length}
use Rattle.semiring.specs.Algebra.{none_word_of}
use Rattle.semiring.specs.declared.Algebra.TheVariants.{Distance}
use Rattle.closure.specs.Elimination.{closure}
use Rattle.closure.specs.Table.{entries}
use Rattle.text.specs.Ascii.{ascii}
use Rattle.text.specs.claims.Numerals.{NumeralOf}
use Rattle.road_text.specs.Reading.{accepted, road_reading_of}
use Rattle.road_sheet.specs.Rows.{shown_word, table_text}
use Rattle.road_sheet.specs.Sheet.{road_table, closed_table, road_sheet_of}

-- The word that closing the file's table gives from point i to point j, counted from 0.
abbrev pub closed_word : ℕ → List ℕ → ℕ → ℕ → ℕ
closed_word n file = closure Distance n (road_table n file)

-- A file of n points.
pub record Shown (n : ℕ) (file : List ℕ) : Type 0 where
  -- "POINTS outside 1 to 128" is refused.
  pub least : 1 ≤ n
  pub most : n ≤ 128
  pub rows : road_sheet_of file ≡ table_text n (closed_table n file)
  -- Each word printed is the closed table's.
  pub words : (i j : ℕ) → i < n → j < n → entries n (closed_table n file) i j ≡ closed_word n file i j
  -- `-` for none, and a numeral for any other.
  pub none : (i j : ℕ) → i < n → j < n → closed_word n file i j ≡ none_word_of Distance → shown_word (closed_word n file i j) ≡ ascii "-"
  pub numeral : (i j : ℕ) → i < n → j < n → closed_word n file i j ≢ none_word_of Distance
      → NumeralOf (closed_word n file i j) (shown_word (closed_word n file i j))

abbrev pub RoadSheet : Type 0
RoadSheet = (file : List ℕ) (n : ℕ) → road_reading_of 16384 file ≡ accepted n → Shown n file

-- A page's length: 128 rows of 128 words, each of at most 5 bytes with one after it.
abbrev pub page_bytes : ℕ
page_bytes = 98304

-- It has room for every text.
abbrev pub Room : Type 0
Room = (file : List ℕ) → length (road_sheet_of file) ≤ page_bytes
