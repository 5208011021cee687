-- What is printed for small files, whole.
use Rattle.std.specs.Prelude.{ℕ, ◌≡◌, List}
use Rattle.text.specs.Ascii.{ascii}
use Rattle.road_sheet.specs.Sheet.{road_sheet_of}

-- From 1 to 3 by 2 is shorter than the arc between them, and from 3 there is no way. Of two arcs the shorter stands.
abbrev pub three_points : List ℕ
three_points = ascii "c three points\np sp 3 4\na 1 2 4\na 1 3 9\na 2 3 5\na 2 3 3\n"

-- "a length above 65534 is read as 65534"; the last line may lack its LF.
abbrev pub far_point : List ℕ
far_point = ascii "p sp 2 1\na 1 2 70000"

abbrev pub one_point : List ℕ
one_point = ascii "p sp 1 0\n"

pub record RoadCards : Type 0 where
  pub three_points_lem : road_sheet_of three_points ≡ ascii "0 4 7\n- 0 3\n- - 0\n"
  pub far : road_sheet_of far_point ≡ ascii "0 65534\n- 0\n"
  pub one-point : road_sheet_of one_point ≡ ascii "0\n"
  -- an arc too few
  pub refused_file : road_sheet_of (ascii "p sp 2 2\na 1 2 4\n") ≡ ascii "(refused 23)\n"
