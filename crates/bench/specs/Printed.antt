-- What the bench prints of an input, by what reading it into a text came to: the sheet of all of it.
use Rattle.std.specs.Prelude.{ℕ, ◌<◌, List, length, Some}
use Rattle.input.specs.declared.Input.{Input}
use Rattle.input.specs.declared.Input.TheVariants.{Full}
use Rattle.input.specs.Reads.{ReadInto, WholeInput}
use Rattle.sheet_form.specs.claims.Longer.{SameSheet}

pub data ToPrint (text : List ℕ) : Input → List ℕ → Type 0 where
  all : {input : Input} {part : List ℕ} → WholeInput text input part → ToPrint text input part
  -- the input may go on, which changes nothing of its sheet
  longer : SameSheet text → ToPrint text Full text

-- An input read into a text, with room for more than the longest text that is accepted.
pub record InRoom (text : List ℕ) (input : Input) : Type 0 where
  pub read : ReadInto (length text) (Some input)
  pub room : 65536 < length text
