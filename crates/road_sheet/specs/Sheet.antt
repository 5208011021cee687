-- The program `road` over request K7: what is printed for a file.
use Rattle.std.specs.Prelude.{ℕ, ◌*◌, List, take}
use Rattle.semiring.specs.declared.Algebra.TheVariants.{Distance}
use Rattle.closure.specs.Elimination.{eliminated}
use Rattle.road_text.specs.Reading.{RoadReading, refused, accepted, road_reading_of, table_after}
use Rattle.road_sheet.specs.Rows.{table_text, refused_text}

-- The table that reading a file of n points leaves in the buffer's first words.
abbrev pub road_table : ℕ → List ℕ → List ℕ
road_table n file = take (n * n) (table_after 16384 file)

-- Its elimination in distance.
abbrev pub closed_table : ℕ → List ℕ → List ℕ
closed_table n file = eliminated Distance n (road_table n file)

abbrev pub printed : List ℕ → RoadReading → List ℕ
printed file (refused number) = refused_text number
printed file (accepted points) = table_text points (closed_table points file)

-- The printed bytes for every file.
abbrev pub road_sheet_of : List ℕ → List ℕ
road_sheet_of file = printed file (road_reading_of 16384 file)
