-- K7's refusals, read both ways in the paper's own conditions: a number is returned exactly where its test is the first that applies.
use Rattle.std.specs.Prelude.{ℕ, suc, ◌≡◌, ◌≢◌, List, [], ◌∷◌}
use Rattle.refusals.specs.Conditions.{Conditions, otherwise, test, Returns, Outside}
use Rattle.text.specs.Pieces.{lines}
use Rattle.road_form.specs.declared.forms.Arc.{Arc as ArcSaid}
use Rattle.road_form.specs.declared.forms.Line.{Line}
use Rattle.road_form.specs.declared.forms.Line.TheVariants.{Problem, Arc, Unknown}
use Rattle.road_form.specs.Forms.{form_of}
use Rattle.road_text.specs.declared.progress.Progress.{Progress}
use Rattle.road_text.specs.Steps.{start, after}
use Rattle.road_text.specs.Reading.{RoadReading, refused, accepted, road_reading_of}

-- "A wrong buffer length .. is 21, the buffer first"
unfoldable pub buffer_conditions : ℕ → Conditions
buffer_conditions m = test (m ≢ 16384) 21 otherwise

-- "a line of no known form ..; a blank line, an arc before the `p` line, a second `p` line .. count as such"
pub data FormFault (s : Progress) : Line → Type 0 where
  no_known_form : FormFault s Unknown
  second_problem : {points arcs : ℕ} → s.points ≢ 0 → FormFault s (Problem points arcs)
  arc_before : {a : ArcSaid} → s.points ≡ 0 → FormFault s (Arc a)

-- "a point outside 1 to POINTS, or POINTS outside 1 to 128"
pub data PointFault (s : Progress) : Line → Type 0 where
  points_outside : {points arcs : ℕ} → Outside 1 128 points → PointFault s (Problem points arcs)
  from_outside : {a : ArcSaid} → Outside 1 s.points a.from → PointFault s (Arc a)
  to_outside : {a : ArcSaid} → Outside 1 s.points a.to → PointFault s (Arc a)

-- "22, found on its line, after 21 there"
unfoldable pub line_conditions : Progress → Line → Conditions
line_conditions s f = test (FormFault s f) 21 (test (PointFault s f) 22 otherwise)

-- "found at the end, no `p` line ..; a count of `a` lines other than ARCS is 23, tested at the end"
unfoldable pub end_conditions : Progress → Conditions
end_conditions s = test (s.points ≡ 0) 21 (test (s.count ≢ s.arcs) 23 otherwise)

-- What the lines to come give, after those that led to s.
pub data ByLines : Progress → List (List ℕ) → RoadReading → Type 0 where
  line_refused : {s : Progress} {l : List ℕ} {ls : List (List ℕ)} {k : ℕ} → Returns (line_conditions s (form_of l)) (suc k)
      → ByLines s (l ∷ ls) (refused (suc k))
  line_passed : {s : Progress} {l : List ℕ} {ls : List (List ℕ)} {r : RoadReading} → Returns (line_conditions s (form_of l)) 0
      → ByLines (after s (form_of l)) ls r → ByLines s (l ∷ ls) r
  end_refused : {s : Progress} {k : ℕ} → Returns (end_conditions s) (suc k) → ByLines s [] (refused (suc k))
  end_passed : {s : Progress} → Returns (end_conditions s) 0 → ByLines s [] (accepted s.points)

pub data ByTable (m : ℕ) (file : List ℕ) : RoadReading → Type 0 where
  buffer_refused : {k : ℕ} → Returns (buffer_conditions m) (suc k) → ByTable m file (refused (suc k))
  by_lines : {r : RoadReading} → Returns (buffer_conditions m) 0 → ByLines start (lines file) r → ByTable m file r

pub record ReadExactly (m : ℕ) (file : List ℕ) : Type 0 where
  pub given : ByTable m file (road_reading_of m file)
  pub only : (r : RoadReading) → ByTable m file r → road_reading_of m file ≡ r

abbrev pub RoadRefusals : Type 0
RoadRefusals = (m : ℕ) (file : List ℕ) → ReadExactly m file
