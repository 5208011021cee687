-- What the code does for one line, whatever has been read before it.
use Rattle.std.specs.Prelude.{ℕ, ◌≡◌, List, set, Result}
use Rattle.semiring.specs.Named.{number_of}
use Rattle.semiring.specs.declared.Algebra.{Algebra}
use Rattle.job_form.specs.declared.tokens.Token.{Token}
use Rattle.text.specs.Pieces.{parts}
use Rattle.job_form.specs.Forms.{Form, job, row, form_of}
use Rattle.job_reading.specs.declared.state.State.{State}
use Rattle.refusals.specs.declared.Reason.{Reason}
use Rattle.job_form.specs.declared.rows.Tally.{Tally}
use Rattle.job_reading.specs.Steps.{Progress, step}
use Rattle.job_steps.specs.inner.States.{state_of, led_by, next_of, RowOf, Kept, Went, JobsWent}

-- A form leads from a state to an answer.
pub record Stepped (s : State) (f : Form) (r : Result State Reason) : Type 0 where
  pub outcome : (n : ℕ) (p : Progress) → s ≡ state_of n p → led_by r ≡ next_of n (step p f)

-- The algebra and the size of a job after so many others are stored.
pub record Noted (jobs : ℕ) (a : Algebra) (size : ℕ) (algebras sizes algebras' sizes' : List ℕ) : Type 0 where
  pub algebra_stored : algebras' ≡ set algebras jobs (number_of a)
  pub size_stored : sizes' ≡ set sizes jobs size

-- A job does, and its algebra and its size are stored.
pub record JobStepped (s : State) (size algebra : Token) (algebras sizes : List ℕ) (r : Result State Reason) (algebras' sizes' : List ℕ) : Type 0 where
  pub stepped : Stepped s (job size algebra) r
  pub memory : (n : ℕ) (p : Progress) → s ≡ state_of n p → JobsWent p (step p (job size algebra)) algebras sizes algebras' sizes'

-- A row does, by its tally and the place after its words.
pub record RowStepped (s : State) (tally : Tally) (at : ℕ) (r : Result State Reason) : Type 0 where
  pub outcome : (n : ℕ) (p : Progress) (ts : List Token) → s ≡ state_of n p → RowOf n p ts tally at → led_by r ≡ next_of n (step p (row ts))

-- A line leads from a state and three buffers to an answer and those buffers.
pub record Advanced (line : List ℕ) (s : State) (algebras sizes weights : List ℕ) (r : Result State Reason) (algebras' sizes' weights' : List ℕ) : Type 0 where
  pub goes : (p : Progress) → Kept p s algebras sizes weights → Went (step p (form_of (parts line))) r algebras' sizes' weights'
