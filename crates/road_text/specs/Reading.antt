-- K7, "Road files in": what reading a whole file gives.
use Rattle.std.specs.Prelude.{ℕ, zero, suc, ◌≡◌, List, [], ◌∷◌, ◌++◌, Bool, not, eqb, Result, Ok, Err}
use Rattle.memory.specs.Lists.{list_of}
use Rattle.refusals.specs.Reason.{reason_number}
use Rattle.refusals.specs.Tests.{first}
use Rattle.text.specs.Pieces.{lines}
use Rattle.road_form.specs.declared.forms.Arc.{Arc as ArcSaid}
use Rattle.road_form.specs.declared.forms.Line.{Line}
use Rattle.road_form.specs.declared.forms.Line.TheVariants.{Comment, Problem, Arc, Unknown}
use Rattle.road_form.specs.Forms.{form_of}
use Rattle.road_table.specs.Table.{word_of}
use Rattle.road_text.specs.declared.progress.Progress.{Progress}
use Rattle.road_text.specs.Steps.{start, line_tests, after, end_tests}
use Rattle.refusals.specs.declared.Reason.{Reason}

-- The number of a refusal, or POINTS.
pub data RoadReading : Type 0 where
  refused : ℕ → RoadReading
  accepted : ℕ → RoadReading

-- What follows tests that gave a number, 0 for none.
abbrev pub unless : ℕ → RoadReading → RoadReading
unless zero r = r
unless (suc k) r = refused (suc k)

-- Line by line, and then the end, after what has been read.
unfoldable pub follow : List (List ℕ) → Progress → RoadReading
follow [] s = unless (first 0 (end_tests s)) (accepted s.points)
follow (l ∷ ls) s = unless (first 0 (line_tests s (form_of l))) (follow ls (after s (form_of l)))

-- "The table's buffer must have 16,384 words .. A wrong buffer length .. is 21, the buffer first"
abbrev pub buffer_tests : ℕ → List (Bool × ℕ)
buffer_tests m = (not (eqb m 16384), 21) ∷ []

-- What a file gives with a buffer of m words. "one LF a line, the last may lack it"
unfoldable pub road_reading_of : ℕ → List ℕ → RoadReading
road_reading_of m file = unless (first 0 (buffer_tests m)) (follow (lines file) start)

abbrev pub arcs_of : Line → List ArcSaid
arcs_of Comment = []
arcs_of Unknown = []
arcs_of (Problem points arcs) = []
arcs_of (Arc a) = a ∷ []

-- The arcs of all `a` lines.
unfoldable pub arcs_in : List (List ℕ) → List ArcSaid
arcs_in [] = []
arcs_in (l ∷ ls) = arcs_of (form_of l) ++ arcs_in ls

-- "a refusal .. zeroes it at any length, else its first POINTS² words are the table, row by row, the rest zero": word q
abbrev pub word_in : RoadReading → List ArcSaid → ℕ → ℕ
word_in (refused number) arcs q = 0
word_in (accepted points) arcs q = word_of points arcs q

-- The buffer of m words after the call.
abbrev pub table_after : ℕ → List ℕ → List ℕ
table_after m file = list_of m (word_in (road_reading_of m file) (arcs_in (lines file)))

-- What an answer says: "POINTS is returned", or the refusal's number.
abbrev pub answered : Result ℕ Reason → RoadReading
answered (Ok n) = accepted n
answered (Err reason) = refused (reason_number reason)

-- The contract of the call: its answer, and every word of the buffer after it.
pub record RoadRead (m : ℕ) (file : List ℕ) (r : Result ℕ Reason) (table : List ℕ) : Type 0 where
  pub outcome : answered r ≡ road_reading_of m file
  pub memory : table ≡ table_after m file
