-- What is kept while a file is read: how far, and the table of the arcs so far.
use Rattle.std.specs.Prelude.{ℕ, ◌<◌, ◌≤◌, ◌^◌, ◌≡◌, List, [], ◌++◌, length, Result, Ok, Err}
use Rattle.memory.specs.Lists.{list_of}
use Rattle.refusals.specs.Tests.{first}
use Rattle.refusals.specs.Reason.{reason_number}
use Rattle.refusals.specs.declared.Reason.{Reason}
use Rattle.text.specs.Pieces.{lines}
use Rattle.road_form.specs.declared.forms.Arc.{Arc}
use Rattle.road_form.specs.declared.forms.Line.{Line}
use Rattle.road_table.specs.inner.Held.{Holds}
use Rattle.road_text.specs.declared.progress.Progress.{Progress}
use Rattle.road_text.specs.Steps.{start, line_tests, after}
use Rattle.road_text.specs.Reading.{RoadReading, refused, accepted, follow, arcs_of, arcs_in, word_in, answered}

-- Room for a line more.
pub record Ready (s : Progress) (l : List ℕ) : Type 0 where
  pub room : length l ≡ 16384
  pub few : s.points ≤ 128
  pub count : s.count < 2 ^ 63

-- The buffer holds the table of the arcs so far, of which there is none before the `p` line.
pub record Kept (seen : List Arc) (s : Progress) (l : List ℕ) : Type 0 where
  pub room : length l ≡ 16384
  pub few : s.points ≤ 128
  pub holds : Holds s.points seen l
  pub none_yet : s.points ≡ 0 → seen ≡ []

-- A line of the form f is passed.
pub record Passed (s : Progress) (f : Line) (old : List ℕ) (t : Progress) (new : List ℕ) : Type 0 where
  pub clear : first 0 (line_tests s f) ≡ 0
  pub state : t ≡ after s f
  pub kept : (seen : List Arc) → Kept seen s old → Kept (seen ++ arcs_of f) t new

-- It is passed, or it stops the reading.
pub record Stepped (s : Progress) (f : Line) (old : List ℕ) (r : Result Progress Reason) (new : List ℕ) : Type 0 where
  pub goes : (t : Progress) → r ≡ Ok t → Passed s f old t new
  pub stops : (reason : Reason) → r ≡ Err reason → first 0 (line_tests s f) ≡ reason_number reason

-- The answer of a file whose last line has been read.
pub record Ended (s : Progress) (r : Result ℕ Reason) : Type 0 where
  pub outcome : answered r ≡ follow [] s

-- The table of a file whose lines have been read: of a refusal it is of no account.
abbrev pub Filled : RoadReading → List Arc → List ℕ → Type 0
Filled (refused number) arcs l = Unit {0}
Filled (accepted points) arcs l = Holds points arcs l

pub record Followed (file : List ℕ) (r : Result ℕ Reason) (l : List ℕ) : Type 0 where
  pub size : length l ≡ 16384
  pub outcome : answered r ≡ follow (lines file) start
  pub memory : Filled (follow (lines file) start) (arcs_in (lines file)) l

-- What is owed with a buffer of the right length.
pub record Owed (file : List ℕ) (r : Result ℕ Reason) (l : List ℕ) : Type 0 where
  pub outcome : answered r ≡ follow (lines file) start
  pub memory : l ≡ list_of 16384 (word_in (follow (lines file) start) (arcs_in (lines file)))
