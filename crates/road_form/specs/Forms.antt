-- K7, "Road files in": what a line says.
use Rattle.std.specs.Prelude.{ℕ, ◌-◌, List, [], ◌∷◌, Bool, cond, not, ◌&&◌, length, get_or, eqb}
use Prim.Native.Char.{code}
use Rattle.refusals.specs.Tests.{first, outside}
use Rattle.memory.specs.Lists.{same}
use Rattle.text.specs.Ascii.{ascii}
use Rattle.text.specs.Numeral.{digits, decimal}
use Rattle.text.specs.Pieces.{parts}
use Rattle.road_form.specs.declared.forms.Line.{Line}
use Rattle.road_form.specs.declared.forms.Line.TheVariants.{Comment, Problem, Arc, Unknown}

-- "Numerals are decimal, 1 to 10 digits"
abbrev pub is_numeral : List ℕ → Bool
is_numeral p = not (outside 1 10 (length p)) && digits p

-- Just three parts, of these kinds.
module _ (kind₁ kind₂ kind₃ : List ℕ → Bool) (form : List ℕ → List ℕ → List ℕ → Line) where
  abbrev pub three_parts : List (List ℕ) → Line
  three_parts [] = Unknown
  three_parts (x ∷ []) = Unknown
  three_parts (x ∷ y ∷ []) = Unknown
  three_parts (x ∷ y ∷ z ∷ []) = cond (kind₁ x && (kind₂ y && kind₃ z)) (form x y z) Unknown
  three_parts (x ∷ y ∷ z ∷ w ∷ ps) = Unknown

abbrev pub is_shortest : List ℕ → Bool
is_shortest p = same p (ascii "sp")

-- "`p sp POINTS ARCS`": the parts after the `p`
abbrev pub problem_of : List ℕ → List ℕ → List ℕ → Line
problem_of sp points arcs = Problem (decimal 0 points) (decimal 0 arcs)

abbrev pub problem_form : List (List ℕ) → Line
problem_form = three_parts is_shortest is_numeral is_numeral problem_of

-- "`a FROM TO LENGTH`": the parts after the `a`
abbrev pub arc_of : List ℕ → List ℕ → List ℕ → Line
arc_of from to weight = Arc (record { from = decimal 0 from; to = decimal 0 to; length = decimal 0 weight })

abbrev pub arc_form : List (List ℕ) → Line
arc_form = three_parts is_numeral is_numeral is_numeral arc_of

abbrev pub form_of_parts : List (List ℕ) → Line
form_of_parts [] = Unknown
form_of_parts (p ∷ ps) =
    first Unknown
    ((same p (ascii "p"), problem_form ps)
    ∷ (same p (ascii "a"), arc_form ps)
    ∷ [])

abbrev pub begins_with : ℕ → List ℕ → Bool
begins_with byte line = not (eqb (length line) 0) && eqb (get_or line 0 0) byte

abbrev pub ends_with : ℕ → List ℕ → Bool
ends_with byte line = not (eqb (length line) 0) && eqb (get_or line (length line - 1) 0) byte

-- "lines that begin with `c`"; "in `p` and `a` lines one or more spaces stand between parts and none elsewhere"
unfoldable pub form_of : List ℕ → Line
form_of line =
    first (form_of_parts (parts line))
    ((begins_with (code "c") line, Comment)
    ∷ (begins_with (code " ") line, Unknown)
    ∷ (ends_with (code " ") line, Unknown)
    ∷ [])
