-- A numeral that is taken from a line.
use Rattle.std.specs.Prelude.{ℕ, ◌-◌, ◌<◌, ◌≤◌, ◌≡◌, List, [], ◌∷◌, Bool, true, false, length, get_or, take, Option, None, Some}
use Prim.Native.Char.{code}
use Rattle.text.specs.Numeral.{decimal}
use Rattle.text.specs.inner.Scan.{parts_from, Until}
use Rattle.road_form.specs.declared.numbers.Number.{Number}
use Rattle.road_form.specs.Forms.{is_numeral}

-- Whether the first part there is one and is of a kind.
abbrev pub first_is : (List ℕ → Bool) → List (List ℕ) → Bool
first_is kind [] = false
first_is kind (p ∷ ps) = kind p

-- The first part from `from` on is a numeral, and the others come from `end` on.
pub record NumberAt (line : List ℕ) (from value end : ℕ) : Type 0 where
  pub part : List ℕ
  pub parts : parts_from from line ≡ part ∷ parts_from end line
  pub numeral : is_numeral part ≡ true
  pub number : value ≡ decimal 0 part
  pub within : end ≤ length line
  pub closed : get_or line (end - 1) 0 ≡ code " " → ⊥

pub record Takes (line : List ℕ) (from : ℕ) (r : Option Number) : Type 0 where
  pub some : (n : Number) → r ≡ Some n → NumberAt line from n.value n.end
  pub none : r ≡ None → first_is is_numeral (parts_from from line) ≡ false

-- Taken from a line that stands at the beginning of a text, wherever the line ends.
pub record TakenFrom (text : List ℕ) (from : ℕ) (r : Option Number) : Type 0 where
  pub takes : (e : ℕ) → Until (code "\n") 0 text e → from ≤ e → Takes (take e text) from r

-- A part from start to the end of its line, of digits alone.
pub record Ended (start at value : ℕ) (r : Option Number) : Type 0 where
  pub some : start < at → r ≡ Some (record { value = value; end = at })
  pub none : at ≤ start → r ≡ None
