-- K7, "Road files in": the tests of a line and of the end, and what has been read after a line.
use Rattle.std.specs.Prelude.{ℕ, ◌+◌, List, [], ◌∷◌, Bool, true, not, eqb}
use Rattle.refusals.specs.Tests.{outside}
use Rattle.road_form.specs.declared.forms.Line.{Line}
use Rattle.road_form.specs.declared.forms.Line.TheVariants.{Comment, Problem, Arc, Unknown}
use Rattle.road_text.specs.declared.progress.Progress.{Progress}

abbrev pub start : Progress
start = record { points = 0; arcs = 0; count = 0 }

-- "a line of no known form is 21 ..; a blank line, an arc before the `p` line, a second `p` line .. count as such; a point outside 1 to POINTS,
-- or POINTS outside 1 to 128, is 22, found on its line, after 21 there"
abbrev pub line_tests : Progress → Line → List (Bool × ℕ)
line_tests s Comment = []
line_tests s Unknown = (true, 21) ∷ []
line_tests s (Problem points arcs) = (not (eqb s.points 0), 21) ∷ (outside 1 128 points, 22) ∷ []
line_tests s (Arc a) = (eqb s.points 0, 21) ∷ (outside 1 s.points a.from, 22) ∷ (outside 1 s.points a.to, 22) ∷ []

-- Every `a` line counts, an arc from a point to itself too.
abbrev pub after : Progress → Line → Progress
after s Comment = s
after s Unknown = s
after s (Problem points arcs) = record { points = points; arcs = arcs; count = 0 }
after s (Arc a) = record { points = s.points; arcs = s.arcs; count = s.count + 1 }

-- "found at the end, no `p` line [is 21] ..; a count of `a` lines other than ARCS is 23, tested at the end"
abbrev pub end_tests : Progress → List (Bool × ℕ)
end_tests s = (eqb s.points 0, 21) ∷ (not (eqb s.count s.arcs), 23) ∷ []
