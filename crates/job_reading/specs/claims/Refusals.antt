-- Document 01, "Where each call turns back", row Text, read both ways in the paper's own conditions.
use Rattle.std.specs.Prelude.{ℕ, suc, ◌<◌, ◌≤◌, ◌≡◌, ◌⊎◌, List, [], ◌∷◌, length}
use Rattle.semiring.specs.declared.Algebra.{Algebra}
use Rattle.semiring.specs.declared.Algebra.TheVariants.{Reach}
use Rattle.refusals.specs.Tests.{first}
use Rattle.refusals.specs.Conditions.{Conditions, otherwise, test, Returns, Exactly, Outside}
use Rattle.text.specs.Pieces.{lines, parts}
use Rattle.job_form.specs.declared.tokens.Token.{Token}
use Rattle.job_form.specs.declared.tokens.Token.TheVariants.{Number, Over, Dash, Name}
use Rattle.job_form.specs.Forms.{Form, list, job, row, close, skipped, form_of}
use Rattle.job_reading.specs.declared.state.Due.{Due}
use Rattle.job_reading.specs.declared.state.Due.TheVariants as due
use Rattle.job_reading.specs.Steps.{Progress, start, tests, after}
use Rattle.job_reading.specs.Reading.{Reading, refused, accepted, refusal, length_tests, reading_of}

-- "18 sizes not 16 or weights not 16,384 words; 13 over 65,536 bytes", from the lengths of the buffers. K8: "16 algebras ..; another length
-- of theirs is 18".
unfoldable pub length_conditions : ℕ → ℕ → ℕ → List ℕ → Conditions
length_conditions algebras sizes weights text =
    test ((algebras ≡ 16 → ⊥) ⊎ ((sizes ≡ 16 → ⊥) ⊎ (weights ≡ 16384 → ⊥))) 18
    (test (65536 < length text) 13
    otherwise)

abbrev pub BeforeLines : Type 0
BeforeLines =
    (algebras sizes weights : ℕ) (text : List ℕ)
    → Exactly (length_conditions algebras sizes weights text) (first 0 (length_tests algebras sizes weights (length text)))

-- "a numeral is a run of digits", read or over
pub data Numeral : Token → Type 0 where
  read : {n : ℕ} → Numeral (Number n)
  over : Numeral Over

-- A row's part: "numeral" or "`-`".
pub data RowPart : Token → Type 0 where
  numeral : {t : Token} → Numeral t → RowPart t
  dash : RowPart Dash

module _ (P : Token → Type 0) where
  pub data EachPart : List Token → Type 0 where
    none : EachPart []
    and : {t : Token} {ts : List Token} → P t → EachPart ts → EachPart (t ∷ ts)

  pub data SomePart : List Token → Type 0 where
    here : {t : Token} {ts : List Token} → P t → SomePart (t ∷ ts)
    later : {t : Token} {ts : List Token} → SomePart ts → SomePart (t ∷ ts)

-- "skipped lines apart"
pub data Apart : Form → Type 0 where
  apart : Apart skipped

-- "17 any line after the end"
pub data AfterEnd : Due → Type 0 where
  after_end : AfterEnd due.Nothing

-- "Forms in order: .. per job .., then n lines `(row w ..)` .., then `)`; at the end `)`", K8: "`(list N` and `(job n A`", "with A a name from
-- the table": each where it is due. "14 not the form due".
pub data FormDue : Due → Form → Type 0 where
  list_begins : {n : Token} → Numeral n → FormDue due.List (list n)
  job_begins : {n : Token} {a : Algebra} → Numeral n → FormDue due.Job (job n (Name a))
  row_stands : {ts : List Token} → EachPart RowPart ts → FormDue due.Row (row ts)
  job_ends : FormDue due.Close close
  list_ends : FormDue due.Job close

-- "15 a numeral over 5 digits or above 65535, or `-` in reach"
pub data OverIn : Algebra → Token → Type 0 where
  over_numeral : {a : Algebra} → OverIn a Over
  dash_in_reach : OverIn Reach Dash

pub data HasOver (a : Algebra) : Form → Type 0 where
  over_order : HasOver a (list Over)
  over_size : {t : Token} → HasOver a (job Over t)
  over_word : {ts : List Token} → SomePart (OverIn a) ts → HasOver a (row ts)

-- "16 row length"
pub data RowLength (size : ℕ) : Form → Type 0 where
  other_length : {ts : List Token} → (length ts ≡ size → ⊥) → RowLength size (row ts)

-- "6 order"
pub data OrderOutside : Form → Type 0 where
  order_outside : {n : ℕ} → Outside 1 32 n → OrderOutside (list (Number n))

-- "8 a job's size outside 1 to N"
pub data SizeOutside (order : ℕ) : Form → Type 0 where
  size_outside : {n : ℕ} {t : Token} → Outside 1 order n → SizeOutside order (job (Number n) t)

-- "5 a reach word above 1"
pub data AboveOne : Algebra → Token → Type 0 where
  above_one : {n : ℕ} → 1 < n → AboveOne Reach (Number n)

pub data HasAbove (a : Algebra) : Form → Type 0 where
  word_above : {ts : List Token} → SomePart (AboveOne a) ts → HasAbove a (row ts)

-- "7 a list closed empty or a 17th job", after so many jobs: where a job is due, `)` closes the list.
pub data JobCount (jobs : ℕ) : Due → Form → Type 0 where
  closed_empty : jobs ≡ 0 → JobCount jobs due.Job close
  job_17 : {d : Due} {n a : Token} → 16 ≤ jobs → JobCount jobs d (job n a)

-- One line, by its form and what has been read before it. 15 and 5 go by the algebra of the job that the line is in.
unfoldable pub line_conditions : Progress → Form → Conditions
line_conditions p f =
    test (Apart f) 0
    (test (AfterEnd p.due) 17
    (test (FormDue p.due f → ⊥) 14
    (test (HasOver p.algebra f) 15
    (test (RowLength p.size f) 16
    (test (OrderOutside f) 6
    (test (SizeOutside p.order f) 8
    (test (HasAbove p.algebra f) 5
    (test (JobCount (length p.sizes) p.due f) 7
    otherwise))))))))

abbrev pub LineRefusals : Type 0
LineRefusals =
    (p : Progress) (line : List ℕ)
    → Exactly (line_conditions p (form_of (parts line))) (tests p (form_of (parts line)))

-- "then line by line ..; last, 17 the text ends early": what the lines to come give, after `line` lines that led to p. "The line (from 1,
-- skipped ones counted; .. the last line for an early end, 0 if empty)".
pub data ByLines : ℕ → Progress → List (List ℕ) → Reading → Type 0 where
  line_refused : {line k : ℕ} {p : Progress} {l : List ℕ} {ls : List (List ℕ)} → Returns (line_conditions p (form_of (parts l))) (suc k)
      → ByLines line p (l ∷ ls) (refused (refusal (suc k) (suc line)))
  line_passed : {line : ℕ} {p : Progress} {l : List ℕ} {ls : List (List ℕ)} {r : Reading} → Returns (line_conditions p (form_of (parts l))) 0
      → ByLines (suc line) (after p (form_of (parts l))) ls r → ByLines line p (l ∷ ls) r
  ends_early : {line : ℕ} {p : Progress} → (AfterEnd p.due → ⊥) → ByLines line p [] (refused (refusal 17 line))
  ends : {line : ℕ} {p : Progress} → AfterEnd p.due → ByLines line p [] (accepted p.order p.algebras p.sizes p.weights)

-- The whole row: what a text gives by its conditions. "0 for 18 and 13".
pub data ByTable (algebras sizes weights : ℕ) (text : List ℕ) : Reading → Type 0 where
  before_lines : {k : ℕ} → Returns (length_conditions algebras sizes weights text) (suc k)
      → ByTable algebras sizes weights text (refused (refusal (suc k) 0))
  by_lines : {r : Reading} → Returns (length_conditions algebras sizes weights text) 0 → ByLines 0 start (lines text) r
      → ByTable algebras sizes weights text r

-- Read both ways: a text is refused with a number on a line, or accepted, exactly where its conditions say so.
pub record ReadExactly (algebras sizes weights : ℕ) (text : List ℕ) : Type 0 where
  pub given : ByTable algebras sizes weights text (reading_of algebras sizes weights text)
  pub only : (r : Reading) → ByTable algebras sizes weights text r → reading_of algebras sizes weights text ≡ r

abbrev pub TextRefusals : Type 0
TextRefusals = (algebras sizes weights : ℕ) (text : List ℕ) → ReadExactly algebras sizes weights text
