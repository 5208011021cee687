-- A word of a row, and the part after it.
use Rattle.std.specs.Prelude.{ℕ, ◌≡◌, List, Option}
use Rattle.text.specs.inner.Scan.{between, parts_from, NextPart}
use Rattle.text.specs.declared.parts.Part.{Part}
use Rattle.job_form.specs.declared.tokens.Token.{Token}
use Rattle.job_form.specs.Forms.{word_in}

pub record Worded (start end : ℕ) (line : List ℕ) (t : Token) (after : Option Part) : Type 0 where
  pub word : t ≡ word_in (between start end line) (parts_from end line)
  pub next : NextPart end line after
