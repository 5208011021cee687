-- Document 01: "13 over 65,536 bytes", on line 0, and "A refusal prints only" its line: so the sheet of a longer text does not depend on what follows
-- its first 65,537 bytes.
use Rattle.std.specs.Prelude.{ℕ, ◌<◌, ◌≡◌, List, ◌++◌, length}
use Rattle.text.specs.Ascii.{ascii}
use Rattle.sheet_form.specs.Sheet.{sheet_of}

abbrev pub LongerText : Type 0
LongerText = (text : List ℕ) → 65536 < length text → sheet_of text ≡ ascii "(refused 13 0)\n"

-- However an input goes on after the text, its sheet is the text's.
pub record SameSheet (text : List ℕ) : Type 0 where
  pub same : (more : List ℕ) → sheet_of (text ++ more) ≡ sheet_of text

abbrev pub LongerInput : Type 0
LongerInput = (text : List ℕ) → 65536 < length text → SameSheet text
