-- The form for each case of the code's answer about a line.
use Rattle.std.specs.Prelude.{ℕ, ◌≡◌, List, []}
use Rattle.job_form.specs.declared.forms.Line.{Line}
use Rattle.job_form.specs.declared.forms.Line.TheVariants as said
use Rattle.job_form.specs.Forms.{Form, list, job, row, close, skipped, unknown, words}
use Rattle.text.specs.inner.Scan.{parts_from}

abbrev pub form_in : List ℕ → Line → Form
form_in line (said.List order) = list order
form_in line (said.Job size algebra) = job size algebra
form_in line (said.Row from) = row (words (parts_from from line))
form_in line said.EmptyRow = row []
form_in line said.Close = close
form_in line said.Skipped = skipped
form_in line said.Unknown = unknown

-- The code's answer about a line is that the line has the form.
pub record Says (line : List ℕ) (said : Line) (form : Form) : Type 0 where
  pub is : form_in line said ≡ form
