-- K7's refusals in the paper's own conditions: each table of tests decides its conditions, and so does the whole reading.
use Prim.Native.Nat.{ℕ, zero, suc}
use mathlib.Core.Path.{◌≡◌, refl}
use mathlib.Core.Logic.{◌⊎◌, inl, inr}
use mathlib.Core.List.{List, [], ◌∷◌}
use mathlib.Core.Bool.{Bool, true, false, cond, ◌||◌}
use Rattle.refusals.specs.Tests.{first, outside}
use Rattle.refusals.specs.Conditions.{Returns, Exactly, Outside}
use Rattle.refusals.proofs.Conditions.{Decides, applies, passes, row, none, either, decides_differ, decides_equal, decides_outside}
use Rattle.text.specs.Pieces.{lines}
use Rattle.road_form.specs.declared.forms.Arc.{Arc as ArcSaid}
use Rattle.road_form.specs.declared.forms.Line.{Line}
use Rattle.road_form.specs.declared.forms.Line.TheVariants.{Comment, Problem, Arc, Unknown}
use Rattle.road_form.specs.Forms.{form_of}
use Rattle.road_text.specs.declared.progress.Progress.{Progress}
use Rattle.road_text.specs.Steps.{start, line_tests, after, end_tests}
use Rattle.road_text.specs.Reading.{RoadReading, accepted, unless, follow, buffer_tests, road_reading_of}
use Rattle.road_text.specs.claims.Refusals.{buffer_conditions, FormFault, no_known_form, second_problem, arc_before, PointFault, points_outside, from_outside, to_outside}
use Rattle.road_text.specs.claims.Refusals.{line_conditions, end_conditions, ByLines, line_refused, line_passed, end_refused, end_passed, ByTable, buffer_refused, by_lines, RoadRefusals}

buffer_exactly : (m : ℕ) → Exactly (buffer_conditions m) (first 0 (buffer_tests m))
unfolding buffer_conditions
buffer_exactly m = row (decides_differ m 16384) none

end_exactly : (s : Progress) → Exactly (end_conditions s) (first 0 (end_tests s))
unfolding end_conditions
end_exactly s = row (decides_equal s.points 0) (row (decides_differ s.count s.arcs) none)

-- what a test decides, said of a line
module _ {b : Bool} {P Q : Type 0} where
  said : (P → Q) → (Q → P) → Decides b P → Decides b Q
  said to from d = record { yes = λ e. to (d.yes e); no = λ e q. d.no e (from q) }

-- two rows of one number
one_row : (a b : Bool) (k : ℕ) → cond (a || b) k 0 ≡ cond a k (cond b k 0)
one_row true b k = refl
one_row false b k = refl

module _ (s : Progress) where
  second : {n m : ℕ} → FormFault s (Problem n m) → s.points ≡ 0 → ⊥
  second (second_problem h) = h

  outside_points : {n m : ℕ} → PointFault s (Problem n m) → Outside 1 128 n
  outside_points (points_outside h) = h

  before : {a : ArcSaid} → FormFault s (Arc a) → s.points ≡ 0
  before (arc_before h) = h

  outside_ends : {a : ArcSaid} → PointFault s (Arc a) → Outside 1 s.points a.from ⊎ Outside 1 s.points a.to
  outside_ends (from_outside h) = inl h
  outside_ends (to_outside h) = inr h

  an_end : (a : ArcSaid) → Outside 1 s.points a.from ⊎ Outside 1 s.points a.to → PointFault s (Arc a)
  an_end a (inl h) = from_outside h
  an_end a (inr h) = to_outside h

  line_exactly : (f : Line) → Exactly (line_conditions s f) (first 0 (line_tests s f))
  unfolding line_conditions
  line_exactly Comment = passes (elim [ ]) (passes (elim [ ]) none)
  line_exactly Unknown = applies no_known_form
  line_exactly (Problem n m) =
      row (said second_problem second (decides_differ s.points 0)) (row (said points_outside outside_points (decides_outside 1 128 n)) none)
  line_exactly (Arc a) =
      row (said arc_before before (decides_equal s.points 0))
      (rw (← one_row (outside 1 s.points a.from) (outside 1 s.points a.to) 22)
      (row
      (said (an_end a) outside_ends (either (decides_outside 1 s.points a.from) (decides_outside 1 s.points a.to)))
      none))

-- the lines, and the end
lines_given : (s : Progress) (ls : List (List ℕ)) → ByLines s ls (follow ls s)
unfolding follow
lines_given s [] = by (first 0 (end_tests s)) (end_exactly s).returned
  where
    by : (k : ℕ) → Returns (end_conditions s) k → ByLines s [] (unless k (accepted s.points))
    by zero r = end_passed r
    by (suc k) r = end_refused r
lines_given s (l ∷ ls) = by (first 0 (line_tests s (form_of l))) (line_exactly s (form_of l)).returned (lines_given (after s (form_of l)) ls)
  where
    by : (k : ℕ) → Returns (line_conditions s (form_of l)) k → ByLines (after s (form_of l)) ls (follow ls (after s (form_of l)))
        → ByLines s (l ∷ ls) (unless k (follow ls (after s (form_of l))))
    by zero r rest = line_passed r rest
    by (suc k) r rest = line_refused r

lines_only : {s : Progress} {ls : List (List ℕ)} {r : RoadReading} → ByLines s ls r → follow ls s ≡ r
unfolding follow
lines_only (line_refused {s} {l} {ls} {k} r) = rw ((line_exactly s (form_of l)).only (suc k) r)
lines_only (line_passed {s} {l} r rest) = rw ((line_exactly s (form_of l)).only 0 r) (lines_only rest)
lines_only (end_refused {s} {k} r) = rw ((end_exactly s).only (suc k) r)
lines_only (end_passed {s} r) = rw ((end_exactly s).only 0 r)

module _ (m : ℕ) (file : List ℕ) where
  given : ByTable m file (road_reading_of m file)
  unfolding road_reading_of
  given = by (first 0 (buffer_tests m)) (buffer_exactly m).returned
    where
      by : (k : ℕ) → Returns (buffer_conditions m) k → ByTable m file (unless k (follow (lines file) start))
      by zero r = by_lines r (lines_given start (lines file))
      by (suc k) r = buffer_refused r

  only : (r : RoadReading) → ByTable m file r → road_reading_of m file ≡ r
  unfolding road_reading_of
  only r (buffer_refused {k} h) = rw ((buffer_exactly m).only (suc k) h)
  only r (by_lines h t) = rw ((buffer_exactly m).only 0 h) (lines_only t)

pub road_refusals : RoadRefusals
road_refusals m file = record { given = given m file; only = only m file }
