-- What `road_read` answers and leaves: 0 and POINTS written, or the number and `points` left.
use Rattle.std.specs.Prelude.{ℕ, ◌≡◌, List}
use Rattle.road_text.specs.Reading.{RoadReading, refused, accepted, road_reading_of, table_after}

abbrev pub number_in : RoadReading → ℕ
number_in (refused number) = number
number_in (accepted points) = 0

abbrev pub points_after : RoadReading → ℕ → ℕ
points_after (refused number) old = old
points_after (accepted points) old = points

pub record RoadReadHost (m : ℕ) (file : List ℕ) (number old new : ℕ) (table : List ℕ) : Type 0 where
  pub outcome : number ≡ number_in (road_reading_of m file)
  pub points : new ≡ points_after (road_reading_of m file) old
  pub memory : table ≡ table_after m file
