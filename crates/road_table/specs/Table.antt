-- K7, "Road files in": the distance table of a file's arcs.
use Rattle.std.specs.Prelude.{ℕ, ◌+◌, ◌*◌, ◌/◌, ◌%◌, min, List, [], ◌∷◌, Bool, cond, ◌&&◌, eqb, ltb}
use Rattle.semiring.specs.declared.Algebra.TheVariants.{Distance}
use Rattle.semiring.specs.Algebra.{none_word_of}
use Rattle.road_form.specs.declared.forms.Arc.{Arc}

-- "a length above 65534 is read as 65534"
abbrev pub held : ℕ → ℕ
held l = min l 65534

abbrev pub joins : ℕ → ℕ → Arc → Bool
joins i j a = eqb a.from i && eqb a.to j

-- The lengths of all arcs from point i to point j.
unfoldable pub lengths : ℕ → ℕ → List Arc → List ℕ
lengths i j [] = []
lengths i j (a ∷ arcs) = cond (joins i j a) (held a.length ∷ lengths i j arcs) (lengths i j arcs)

-- The least number of a list, none where it is empty.
unfoldable pub least : List ℕ → ℕ
least [] = none_word_of Distance
least (l ∷ ls) = min l (least ls)

-- "A pair with no arc is none and the diagonal is 0. Of several arcs for a pair the shortest stands, arcs from a point to itself are
-- dropped". Points are "counted from 1".
abbrev pub entry : List Arc → ℕ → ℕ → ℕ
entry arcs i j = cond (eqb i j) 0 (least (lengths i j arcs))

-- "its first POINTS² words are the table, row by row, the rest zero": word q of the buffer
unfoldable pub word_of : ℕ → List Arc → ℕ → ℕ
word_of n arcs q = cond (ltb q (n * n)) (entry arcs (q / n + 1) (q % n + 1)) 0
