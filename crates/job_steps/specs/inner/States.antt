-- The code's state and buffers for what has been read.
use Rattle.std.specs.Prelude.{ℕ, min, ◌≡◌, List, [], ◌++◌, map, length, Result, Ok, Err}
use Rattle.refusals.specs.Reason.{reason_number}
use Rattle.refusals.specs.declared.Reason.{Reason}
use Rattle.job_form.specs.declared.tokens.Token.{Token}
use Rattle.job_reading.specs.declared.state.Due.{Due}
use Rattle.job_reading.specs.declared.state.State.{State}
use Rattle.job_form.specs.declared.rows.Tally.{Tally}
use Rattle.job_reading.specs.declared.answer.List.{List as Listed}
use Rattle.job_reading.specs.declared.answer.Refusal.{Refusal as Why}
use Rattle.job_reading.specs.Steps.{Progress, by_due, Step, go, stop}
use Rattle.job_form.specs.Words.{word_of}
use Rattle.job_reading.specs.Reading.{Reading, refused, accepted, refusal, algebras_in, sizes_in, weights_in, Answer, turned, given, answer_of, answered}
use Rattle.job_form.specs.Buffer.{padded}
use Rattle.job_form.specs.inner.Tallies.{no_tally, tallied}

-- A buffer of n words that was cleared.
pub record Cleared (n : ℕ) (l : List ℕ) : Type 0 where
  pub zeros : l ≡ padded n []

-- The three buffers, of l, m and n words, after they were cleared.
pub record AllCleared (l m n : ℕ) (algebras sizes weights : List ℕ) : Type 0 where
  pub algebras_zero : Cleared l algebras
  pub sizes_zero : Cleared m sizes
  pub weights_zero : Cleared n weights

-- The state for what has been read into a buffer of n weights.
abbrev pub state_of : ℕ → Progress → State
state_of n p = record {
  due = p.due;
  order = p.order;
  jobs = length p.sizes;
  algebra = p.algebra;
  size = p.size;
  left = p.left;
  at = min (length p.weights) n;
}

-- What a line leads to, with the number of its refusal: as the code answers it, and as the definition steps.
pub data Led : Type 0 where
  onward : State → Led
  back : ℕ → Led

abbrev pub led_by : Result State Reason → Led
led_by (Ok s) = onward s
led_by (Err reason) = back (reason_number reason)

abbrev pub next_of : ℕ → Step → Led
next_of n (go p) = onward (state_of n p)
next_of n (stop k) = back k

-- A row that was read after the weights of p.
pub record RowOf (n : ℕ) (p : Progress) (ts : List Token) (tally : Tally) (at : ℕ) : Type 0 where
  pub counts : tally ≡ tallied p.algebra no_tally ts
  pub place : at ≡ min (length (p.weights ++ map (word_of p.algebra) ts)) n

-- The buffers for the jobs that have been read, an algebra and a size of each.
pub record JobsKept (p : Progress) (algebras sizes : List ℕ) : Type 0 where
  pub algebras_hold : algebras ≡ padded (length algebras) p.algebras
  pub sizes_hold : sizes ≡ padded (length sizes) p.sizes
  pub paired : length p.algebras ≡ length p.sizes

-- State and buffers for what has been read.
pub record Kept (p : Progress) (s : State) (algebras sizes weights : List ℕ) : Type 0 where
  pub state : s ≡ state_of (length weights) p
  pub jobs : JobsKept p algebras sizes
  pub weights_hold : weights ≡ padded (length weights) p.weights

-- The answer and the buffers after a step: of a refusal only the answer.
abbrev pub Went : Step → Result State Reason → List ℕ → List ℕ → List ℕ → Type 0
Went (go p) r algebras sizes weights = (s : State) × ((led_by r ≡ onward s) × Kept p s algebras sizes weights)
Went (stop k) r algebras sizes weights = led_by r ≡ back k

abbrev pub JobsWent : Progress → Step → List ℕ → List ℕ → List ℕ → List ℕ → Type 0
JobsWent p (go q) algebras sizes algebras' sizes' = JobsKept p algebras sizes → JobsKept q algebras' sizes'
JobsWent p (stop k) algebras sizes algebras' sizes' = Unit {0}

-- The answer of a text whose last line has been read.
abbrev pub ended_by : Due → State → ℕ → Answer
ended_by d s line =
    let early : Answer = turned (refusal 17 line) in
    by_due early early early early (given s.order s.jobs) d

pub record Ended (s : State) (line : ℕ) (r : Result Listed Why) : Type 0 where
  pub outcome : answered r ≡ ended_by s.due s line

-- The buffers of a text whose lines have been read: of a refusal they are of no account.
abbrev pub Filled : Reading → List ℕ → List ℕ → List ℕ → Type 0
Filled (refused r) algebras sizes weights = Unit {0}
Filled (accepted order bs ss ws) algebras sizes weights =
    (algebras ≡ padded (length algebras) bs) × (sizes ≡ padded (length sizes) ss) × (weights ≡ padded (length weights) ws)

-- What the walk over the lines answers and leaves.
pub record Followed (reading : Reading) (r : Result Listed Why) (algebras sizes weights : List ℕ) : Type 0 where
  pub outcome : answered r ≡ answer_of reading
  pub memory : Filled reading algebras sizes weights

-- What is owed for a reading into buffers of l, m and n words.
pub record Owed (l m n : ℕ) (reading : Reading) (r : Result Listed Why) (algebras sizes weights : List ℕ) : Type 0 where
  pub outcome : answered r ≡ answer_of reading
  pub algebras_left : algebras ≡ padded l (algebras_in reading)
  pub sizes_left : sizes ≡ padded m (sizes_in reading)
  pub weights_left : weights ≡ padded n (weights_in reading)
