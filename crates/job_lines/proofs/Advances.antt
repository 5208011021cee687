-- The answer and the buffers after a step, form by form.
use Prim.Native.Nat.{ℕ, zero, suc, min}
use mathlib.Core.Path.{◌≡◌, refl, sym, ap, subst, ◌∙◌}
use mathlib.Core.List.{List, [], ◌++◌, map, append-nil}
use lib.ListN.{length}
use Rattle.std.proofs.Common.{Result, Ok}
use Rattle.job_form.specs.declared.tokens.Token.{Token}
use Rattle.text.specs.Pieces.{parts}
use Rattle.text.specs.inner.Scan.{parts_from}
use Rattle.job_form.specs.Forms.{Form, list, job, row, close, skipped, unknown, words, form_of}
use Rattle.job_form.specs.declared.forms.Line.{Line}
use Rattle.job_form.specs.declared.forms.Line.TheVariants as said
use Rattle.job_form.specs.inner.Said.{form_in, Says}
use Rattle.job_reading.specs.declared.state.State.{State}
use Rattle.refusals.specs.declared.Reason.{Reason}
use Rattle.job_reading.specs.Steps.{Progress, Step, go, stop, proceed, tests, after, step}
use Rattle.job_form.specs.Words.{word_of}
use Rattle.job_form.specs.Buffer.{padded}
use Rattle.job_steps.specs.inner.States.{state_of, led_by, next_of, RowOf, JobsKept, Kept, Went, JobsWent}
use Rattle.job_form.specs.inner.RowRead.{Held, RowRead}
use Rattle.job_form.specs.declared.rows.Tally.{Tally}
use Rattle.job_form.specs.inner.Tallies.{no_tally, tallied}
use Rattle.job_steps.specs.inner.Stepped.{Stepped, JobStepped, RowStepped, Advanced}
use Rattle.job_steps.proofs.Turns.{Undue, unknown_not_due, gone}

abbrev Holds : Step → List ℕ → List ℕ → List ℕ → Type 0
Holds (go p) algebras sizes weights = JobsKept p algebras sizes × (weights ≡ padded (length weights) p.weights)
Holds (stop k) algebras sizes weights = Unit {0}

went : (t : Step) (r : Result State Reason) (algebras sizes weights : List ℕ) → led_by r ≡ next_of (length weights) t → Holds t algebras sizes weights
    → Went t r algebras sizes weights
went (go p) r algebras sizes weights e h = (state_of (length weights) p, (e, record { state = refl; jobs = h.0; weights_hold = h.1 }))
went (stop k) r algebras sizes weights e h = e

holds_after : (k : ℕ) (p : Progress) (algebras sizes weights : List ℕ) → JobsKept p algebras sizes → weights ≡ padded (length weights) p.weights
    → Holds (proceed k p) algebras sizes weights
holds_after zero p algebras sizes weights e h = (e, h)
holds_after (suc k) p algebras sizes weights e h = tt

-- The form opens no job.
abbrev SameJobs : Progress → Form → Type 0
SameJobs p f = ((after p f).algebras ≡ p.algebras) × ((after p f).sizes ≡ p.sizes)

same_jobs : (p : Progress) (f : Form) {algebras sizes : List ℕ} → SameJobs p f → JobsKept p algebras sizes → JobsKept (after p f) algebras sizes
same_jobs p f (e, h) k = record { algebras_hold = rw e k.algebras_hold; sizes_hold = rw h k.sizes_hold; paired = rw (e, h) k.paired }

module _ (p : Progress) (s : State) (algebras sizes weights : List ℕ) (k : Kept p s algebras sizes weights) where
  went_same : (f : Form) (r : Result State Reason) → SameJobs p f → (after p f).weights ≡ p.weights → led_by r ≡ next_of (length weights) (step p f)
      → Went (step p f) r algebras sizes weights
  unfolding step
  went_same f r e h q =
      went (step p f) r algebras sizes weights q
      (holds_after (tests p f) (after p f) algebras sizes weights (same_jobs p f e k.jobs) (rw h k.weights_hold))

  job_holds : (n : ℕ) (q : Progress) (bs ss : List ℕ) → q.weights ≡ p.weights → JobsWent p (proceed n q) algebras sizes bs ss
      → Holds (proceed n q) bs ss weights
  job_holds zero q bs ss e h = (h k.jobs, rw e k.weights_hold)
  job_holds (suc n) q bs ss e h = tt

  went_job : (t u : Token) (r : Result State Reason) (bs ss : List ℕ) → led_by r ≡ next_of (length weights) (step p (job t u))
      → JobsWent p (step p (job t u)) algebras sizes bs ss → Went (step p (job t u)) r bs ss weights
  unfolding step
  went_job t u r bs ss e h = went (step p (job t u)) r bs ss weights e (job_holds (tests p (job t u)) (after p (job t u)) bs ss refl h)

  went_row : (ts : List Token) (r : Result State Reason) (new : List ℕ) → length new ≡ length weights → new ≡ padded (length new) (p.weights ++ map (word_of p.algebra) ts)
      → led_by r ≡ next_of (length weights) (step p (row ts)) → Went (step p (row ts)) r algebras sizes new
  unfolding step
  went_row ts r new e h q =
      went (step p (row ts)) r algebras sizes new (rw e q)
      (holds_after (tests p (row ts)) (after p (row ts)) algebras sizes new (same_jobs p (row ts) (refl, refl) k.jobs) h)

  went_row_read : (ts : List Token) (tally : Tally) (at : ℕ) (r : Result State Reason) (new : List ℕ) → length new ≡ length weights
      → tally ≡ tallied s.algebra no_tally ts → ((ws : List ℕ) → Held ws s.at weights → Held (ws ++ map (word_of s.algebra) ts) at new)
      → (RowOf (length weights) p ts tally at → led_by r ≡ next_of (length weights) (step p (row ts))) → Went (step p (row ts)) r algebras sizes new
  went_row_read ts tally at r new e et held q =
      went_row ts r new e after_row.content
      (q (record {
        counts = et ∙ ap (λ (x : State). tallied x.algebra no_tally ts) k.state;
        place = after_row.place ∙ ap (min (length (p.weights ++ map (word_of p.algebra) ts))) e;
      }))
    where
      after_row : Held (p.weights ++ map (word_of p.algebra) ts) at new
      after_row =
          let h : Held (p.weights ++ map (word_of s.algebra) ts) at new = held p.weights (record { content = k.weights_hold; place = ap (λ (x : State). x.at) k.state }) in
          subst (λ (x : State). Held (p.weights ++ map (word_of x.algebra) ts) at new) k.state h

  went_row_empty : (tally : Tally) (r : Result State Reason) → tally ≡ no_tally → (RowOf (length weights) p [] tally s.at → led_by r ≡ next_of (length weights) (step p (row [])))
      → Went (step p (row [])) r algebras sizes weights
  unfolding tallied
  went_row_empty tally r e q = went_row_read [] tally s.at r weights refl e (λ ws h. rw (append-nil ws) h) q

-- a line, from what it says
module _ {line : List ℕ} {s : State} {algebras sizes weights : List ℕ} where
  by_form : {r : Result State Reason} {algebras' sizes' weights' : List ℕ} {x : Line} (f : Form) → Says line x (form_of (parts line)) → form_in line x ≡ f
      → ((p : Progress) → Kept p s algebras sizes weights → Went (step p f) r algebras' sizes' weights')
      → Advanced line s algebras sizes weights r algebras' sizes' weights'
  by_form f says is went = record { goes = λ p k. rw (sym says.is ∙ is) (went p k) }

  kept_by : {r : Result State Reason} {x : Line} (f : Form) → Says line x (form_of (parts line)) → form_in line x ≡ f
      → ((p : Progress) → SameJobs p f) → ((p : Progress) → (after p f).weights ≡ p.weights) → Stepped s f r
      → Advanced line s algebras sizes weights r algebras sizes weights
  kept_by {r} f says is ss ws stepped =
      by_form f says is (λ p k. went_same p s algebras sizes weights k f r (ss p) (ws p) (stepped.outcome (length weights) p k.state))

  pub list_line : {r : Result State Reason} {x : Line} {order : Token} → Says line x (form_of (parts line)) → x ≡ said.List order
      → Stepped s (list order) r → Advanced line s algebras sizes weights r algebras sizes weights
  list_line {order = order} says is stepped = kept_by (list order) says (ap (form_in line) is) (λ p. (refl, refl)) (λ p. refl) stepped

  pub close_line : {r : Result State Reason} {x : Line} → Says line x (form_of (parts line)) → x ≡ said.Close
      → Stepped s close r → Advanced line s algebras sizes weights r algebras sizes weights
  close_line says is stepped = kept_by close says (ap (form_in line) is) (λ p. (refl, refl)) (λ p. refl) stepped

  pub unknown_line : {r : Result State Reason} {x : Line} → Says line x (form_of (parts line)) → x ≡ said.Unknown
      → Undue s.due r → Advanced line s algebras sizes weights r algebras sizes weights
  unknown_line says is e = kept_by unknown says (ap (form_in line) is) (λ p. (refl, refl)) (λ p. refl) (unknown_not_due e)

  pub skipped_line : {x : Line} → Says line x (form_of (parts line)) → x ≡ said.Skipped → Advanced line s algebras sizes weights (Ok s) algebras sizes weights
  skipped_line says is =
      by_form skipped says (ap (form_in line) is)
      (λ p k. went_same p s algebras sizes weights k skipped (Ok s) (refl, refl) refl (gone (length weights) p skipped s refl k.state))

  pub job_line : {r : Result State Reason} {x : Line} {size name : Token} {bs ss : List ℕ} → Says line x (form_of (parts line)) → x ≡ said.Job size name
      → JobStepped s size name algebras sizes r bs ss → Advanced line s algebras sizes weights r bs ss weights
  job_line {r} {size = size} {name} {bs} {ss} says is stepped =
      by_form (job size name) says (ap (form_in line) is)
      (λ p k.
      went_job p s algebras sizes weights k size name r bs ss (stepped.stepped.outcome (length weights) p k.state)
      (stepped.memory (length weights) p k.state))

  pub row_line : {r : Result State Reason} {x : Line} {from at : ℕ} {tally : Tally} {weights' : List ℕ} → Says line x (form_of (parts line)) → x ≡ said.Row from
      → RowRead s.algebra line from s.at weights tally at weights' → RowStepped s tally at r → Advanced line s algebras sizes weights r algebras sizes weights'
  row_line {r} {from = from} {at} {tally} {weights'} says is read stepped =
      by_form (row (words (parts_from from line))) says (ap (form_in line) is)
      (λ p k.
      went_row_read p s algebras sizes weights k (words (parts_from from line)) tally at r weights' read.size read.counts read.holds
      (λ h. stepped.outcome (length weights) p (words (parts_from from line)) k.state h))

  pub empty_line : {r : Result State Reason} {x : Line} {tally : Tally} → Says line x (form_of (parts line)) → x ≡ said.EmptyRow → tally ≡ no_tally
      → RowStepped s tally s.at r → Advanced line s algebras sizes weights r algebras sizes weights
  empty_line {r} {tally = tally} says is none stepped =
      by_form (row []) says (ap (form_in line) is)
      (λ p k. went_row_empty p s algebras sizes weights k tally r none (λ h. stepped.outcome (length weights) p [] k.state h))
