-- Document 01, "Job text and bench program": the form that the parts of a line make.
use Rattle.std.specs.Prelude.{ℕ, ◌-◌, List, [], ◌∷◌, Bool, cond, length, get_or, take, eqb}
use Prim.Native.Char.{code}
use Rattle.refusals.specs.Tests.{first}
use Rattle.job_form.specs.declared.tokens.Token.{Token}
use Rattle.job_form.specs.declared.tokens.Token.TheVariants.{Other}
use Rattle.job_form.specs.declared.forms.Head.{Head}
use Rattle.job_form.specs.declared.forms.Head.TheVariants as head
use Rattle.text.specs.Ascii.{ascii}
use Rattle.memory.specs.Lists.{same}
use Rattle.job_form.specs.Tokens.{token_of}

pub data Form : Type 0 where
  list : Token → Form
  job : Token → Token → Form
  row : List Token → Form
  close : Form
  skipped : Form
  unknown : Form

-- The last word of a row: "none [no space] inside a bracket's edge", so its part ends with the bracket.
abbrev pub closing : List ℕ → Token
closing p = cond (eqb (get_or p (length p - 1) 0) (code ")")) (token_of (take (length p - 1) p)) Other

abbrev pub word_in : List ℕ → List (List ℕ) → Token
word_in p [] = closing p
word_in p (q ∷ ps) = token_of p

-- "`(row w ..)`"
unfoldable pub words : List (List ℕ) → List Token
words [] = []
words (p ∷ ps) = word_in p ps ∷ words ps

-- K8: "The text says `(list N` and `(job n A`".
abbrev pub list_form : List (List ℕ) → Form
list_form [] = unknown
list_form (n ∷ []) = list (token_of n)
list_form (n ∷ p ∷ ps) = unknown

abbrev pub job_form : List (List ℕ) → Form
job_form [] = unknown
job_form (n ∷ []) = unknown
job_form (n ∷ a ∷ []) = job (token_of n) (token_of a)
job_form (n ∷ a ∷ p ∷ ps) = unknown

abbrev pub row_form : List (List ℕ) → Form
row_form [] = unknown
row_form (p ∷ ps) = row (words (p ∷ ps))

abbrev pub alone : Form → List (List ℕ) → Form
alone f [] = f
alone f (p ∷ ps) = unknown

-- What the first part announces: the beginning of a form, a row of no words, a lone bracket.
abbrev pub opening_tests : List ℕ → List (Bool × Head)
opening_tests p =
    (same p (ascii "(list"), head.List)
    ∷ (same p (ascii "(job"), head.Job)
    ∷ (same p (ascii "(row"), head.Row)
    ∷ (same p (ascii "(row)"), head.EmptyRow)
    ∷ (same p (ascii ")"), head.Close)
    ∷ []

unfoldable pub opening : List ℕ → Head
opening p = first head.Unknown (opening_tests p)

-- A line "whose first other byte is `;`", or what a form begins with.
unfoldable pub head_of : List ℕ → Head
head_of p = cond (eqb (get_or p 0 0) (code ";")) head.Comment (opening p)

abbrev pub form_for : Head → List (List ℕ) → Form
form_for head.Comment ps = skipped
form_for head.List ps = list_form ps
form_for head.Job ps = job_form ps
form_for head.Row ps = row_form ps
form_for head.EmptyRow ps = alone (row []) ps
form_for head.Close ps = alone close ps
form_for head.Unknown ps = unknown

-- "Lines with nothing but spaces, and lines whose first other byte is `;`, are skipped."
unfoldable pub form_of : List (List ℕ) → Form
form_of [] = skipped
form_of (p ∷ ps) = form_for (head_of p) ps
