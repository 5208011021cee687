-- The program `road` over request K7, whose output no paper lays down: the closed table, one row a line, `-` for none as in document 01, or
-- `(refused NUMBER)`.
use Rattle.std.specs.Prelude.{ℕ, ◌+◌, List, ◌++◌, cond, eqb}
use Rattle.semiring.specs.Algebra.{none_word_of}
use Rattle.semiring.specs.declared.Algebra.TheVariants.{Distance}
use Rattle.closure.specs.Table.{entries}
use Rattle.text.specs.Ascii.{ascii}
use Rattle.text.specs.Joined.{joined}
use Rattle.text.specs.Numeral.{shown}

-- `-` for none, a numeral for any other.
abbrev pub shown_word : ℕ → List ℕ
shown_word w = cond (eqb w (none_word_of Distance)) (ascii "-") (shown w)

-- What stands after word j of a row of n: a space, and LF after the last.
abbrev pub after_word : ℕ → ℕ → List ℕ
after_word n j = cond (eqb (j + 1) n) (ascii "\n") (ascii " ")

-- The word from point i to point j, and what stands after it.
abbrev pub entry_text : ℕ → List ℕ → ℕ → ℕ → List ℕ
entry_text n table i j = shown_word (entries n table i j) ++ after_word n j

-- Row i of a table of n points.
unfoldable pub row_line : ℕ → List ℕ → ℕ → List ℕ
row_line n table i = joined n (entry_text n table i)

-- One row a line.
unfoldable pub table_text : ℕ → List ℕ → List ℕ
table_text n table = joined n (row_line n table)

-- A refusal is a line too.
abbrev pub refused_text : ℕ → List ℕ
refused_text number = ascii "(refused " ++ shown number ++ ascii ")\n"
