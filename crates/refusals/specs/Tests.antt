-- Document 01, "Where each call turns back": "Tested from the top; the first that applies is returned, and none otherwise."
use Rattle.std.specs.Prelude.{ℕ, List, [], ◌∷◌, Bool, false, cond, ◌||◌, ltb}

-- A table of tests, each with what it answers, and the answer of none.
module _ {A : Type 0} (none : A) where
  abbrev pub first : List (Bool × A) → A
  first [] = none
  first (t ∷ ts) = cond t.0 t.1 (first ts)

-- Several tests of one number: whether one of them applies.
abbrev pub one_of : List Bool → Bool
one_of [] = false
one_of (test ∷ tests) = test || one_of tests

-- A number not within its limits.
abbrev pub outside : ℕ → ℕ → ℕ → Bool
outside least most n = ltb n least || ltb most n
