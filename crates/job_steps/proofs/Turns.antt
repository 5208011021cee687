-- What a step of the code answers, form by form, from what its tests give.
use Prim.Native.Nat.{ℕ, zero, suc, ◌+◌, ◌-◌}
use mathlib.Core.Path.{◌≡◌, refl, sym, ap, ap₂, ◌∙◌}
use mathlib.Core.List.{List, [], ◌∷◌, ◌++◌}
use lib.ListN.{length, set, length-set, length-append}
use borrow.Author.Tests.{ne_eqb}
use Rattle.std.proofs.Common.{Result, Ok, Err}
use Rattle.std.specs.Result.{IsErrAnd}
use Rattle.semiring.specs.Named.{number_of}
use Rattle.semiring.specs.declared.Algebra.{Algebra}
use Rattle.refusals.specs.Reason.{reason_number}
use Rattle.refusals.specs.Tests.{first}
use Rattle.refusals.specs.declared.Reason.{Reason}
use Rattle.refusals.specs.declared.Reason.TheVariants.{JobsOutside}
use Rattle.job_form.specs.declared.tokens.Token.{Token}
use Rattle.job_form.specs.Tokens.{value_of, algebra_named}
use Rattle.job_form.specs.Forms.{Form, list, job, row, close, unknown}
use Rattle.job_reading.specs.declared.state.Due.{Due}
use Rattle.job_reading.specs.declared.state.Due.TheVariants as due
use Rattle.job_reading.specs.declared.state.State.{State}
use Rattle.job_form.specs.declared.rows.Tally.{Tally}
use Rattle.job_reading.specs.Steps.{Progress, go, proceed, tests, after, step, for_due, list_tests, job_tests, row_tests, list_end_tests, due_after_row, due_after_close}
use Rattle.job_form.specs.Buffer.{padded}
use Rattle.job_steps.specs.inner.Tallies.{tally_tests}
use Rattle.job_steps.specs.inner.States.{state_of, onward, back, led_by, next_of, RowOf, JobsKept, JobsWent}
use Rattle.job_steps.specs.inner.Stepped.{Stepped, Noted, JobStepped, RowStepped}
use Rattle.job_form.proofs.Padded.{set_padded}
use Rattle.refusals.proofs.Reasons.{reason_some}
use Rattle.job_steps.proofs.Tallies.{tally_tests_lem}

stops : (n k : ℕ) (p : Progress) (reason : Reason) → reason_number reason ≡ k → led_by (Err reason) ≡ next_of n (proceed k p)
stops n zero p reason e = absurd (reason_some reason e)
stops n (suc k) p reason e = ap back e

stopped : (n : ℕ) (p : Progress) (f : Form) (reason : Reason) → reason_number reason ≡ tests p f → led_by (Err reason) ≡ next_of n (step p f)
unfolding step
stopped n p f reason e = stops n (tests p f) (after p f) reason e

goes : (p : Progress) (f : Form) → tests p f ≡ 0 → step p f ≡ go (after p f)
unfolding step
goes p f e = ap (λ (m : ℕ). proceed m (after p f)) e

pub gone : (n : ℕ) (p : Progress) (f : Form) (s : State) → tests p f ≡ 0 → s ≡ state_of n (after p f) → led_by (Ok s) ≡ next_of n (step p f)
gone n p f s e h = ap onward h ∙ sym (ap (next_of n) (goes p f e))

-- The answer to a line whose form is not due.
abbrev pub Undue : Due → Result State Reason → Type 0
Undue d r = IsErrAnd r (λ (reason : Reason). reason_number reason ≡ for_due d 14 14 14 14)

undue : (s : State) (f : Form) (r : Result State Reason) → ((p : Progress) → p.due ≡ s.due → tests p f ≡ for_due s.due 14 14 14 14) → Undue s.due r
    → Stepped s f r
undue s f (Ok x) h e = absurd e
undue s f (Err reason) h e = record { outcome = λ n p is. stopped n p f reason (e ∙ sym (h p (sym (ap (λ (x : State). x.due) is)))) }

-- a list's line
list_undue : (d : Due) (k : ℕ) → (d ≡ due.List → ⊥) → for_due d k 14 14 14 ≡ for_due d 14 14 14 14
list_undue due.List k other = absurd (other refl)
list_undue due.Job k other = refl
list_undue due.Row k other = refl
list_undue due.Close k other = refl
list_undue due.Nothing k other = refl

pub list_not_due : {s : State} (order : Token) {r : Result State Reason} → (s.due ≡ due.List → ⊥) → Undue s.due r → Stepped s (list order) r
list_not_due {s} order {r} other e =
    undue s (list order) r
    (λ p is. ap (λ (d : Due). for_due d (first 0 (list_tests order)) 14 14 14) is ∙ list_undue s.due (first 0 (list_tests order)) other) e

module _ (s : State) (order : Token) (is_due : s.due ≡ due.List) where
  list_number : (n : ℕ) (p : Progress) → s ≡ state_of n p → tests p (list order) ≡ first 0 (list_tests order)
  list_number n p is =
      ap (λ (d : Due). for_due d (first 0 (list_tests order)) 14 14 14) (sym (ap (λ (x : State). x.due) is) ∙ is_due)

  pub list_stops : {reason : Reason} → reason_number reason ≡ first 0 (list_tests order) → Stepped s (list order) (Err reason)
  list_stops {reason} e = record { outcome = λ n p is. stopped n p (list order) reason (e ∙ sym (list_number n p is)) }

  pub list_goes : {v : ℕ} → 0 ≡ first 0 (list_tests order) → v ≡ value_of order
      → Stepped s (list order) (Ok (record { due = due.Job; order = v; jobs = s.jobs; algebra = s.algebra; size = 0; left = 0; at = s.at }))
  list_goes none is_v = record {
    outcome = λ n p is.
        gone n p (list order) _ (list_number n p is ∙ sym none)
        (λ i. record { due = due.Job; order = is_v i; jobs = (is i).jobs; algebra = (is i).algebra; size = 0; left = 0; at = (is i).at });
  }

-- a job's line
job_undue : (d : Due) (k : ℕ) → (d ≡ due.Job → ⊥) → for_due d 14 k 14 14 ≡ for_due d 14 14 14 14
job_undue due.List k other = refl
job_undue due.Job k other = absurd (other refl)
job_undue due.Row k other = refl
job_undue due.Close k other = refl
job_undue due.Nothing k other = refl

-- The buffers after a job: as they were told to be, or of no account.
jobs_stops : (k : ℕ) (p q : Progress) (bs ss bs' ss' : List ℕ) (reason : Reason) → reason_number reason ≡ k → JobsWent p (proceed k q) bs ss bs' ss'
jobs_stops zero p q bs ss bs' ss' reason e = absurd (reason_some reason e)
jobs_stops (suc k) p q bs ss bs' ss' reason e = tt

jobs_stopped : (p : Progress) (f : Form) (reason : Reason) (bs ss bs' ss' : List ℕ) → reason_number reason ≡ tests p f
    → JobsWent p (step p f) bs ss bs' ss'
unfolding step
jobs_stopped p f reason bs ss bs' ss' e = jobs_stops (tests p f) p (after p f) bs ss bs' ss' reason e

-- one word more behind those that a buffer holds
one_more : (ws old new : List ℕ) (at v : ℕ) → old ≡ padded (length old) ws → at ≡ length ws → new ≡ set old at v
    → new ≡ padded (length new) (ws ++ (v ∷ []))
one_more ws old new at v hold e h =
    h
    ∙ ap₂ (λ (l : List ℕ) (k : ℕ). set l k v) hold e
    ∙ set_padded (length old) ws v
    ∙ ap (λ (n : ℕ). padded n (ws ++ (v ∷ []))) (sym (ap length h ∙ length-set old at v))

pub job_not_due : {s : State} (size algebra : Token) {algebras sizes : List ℕ} {r : Result State Reason} → (s.due ≡ due.Job → ⊥) → Undue s.due r
    → JobStepped s size algebra algebras sizes r algebras sizes
job_not_due {s} size algebra {algebras} {sizes} {r = Ok x} other e = absurd e
job_not_due {s} size algebra {algebras} {sizes} {r = Err reason} other e = record {
  stepped = record { outcome = λ n p is. stopped n p (job size algebra) reason (e ∙ sym (number n p is)) };
  memory = λ n p is. jobs_stopped p (job size algebra) reason algebras sizes algebras sizes (e ∙ sym (number n p is));
}
  where
    number : (n : ℕ) (p : Progress) → s ≡ state_of n p → tests p (job size algebra) ≡ for_due s.due 14 14 14 14
    number n p is =
        ap (λ (d : Due). for_due d 14 (first 0 (job_tests p.order (length p.sizes) size algebra)) 14 14) (sym (ap (λ (x : State). x.due) is))
        ∙ job_undue s.due (first 0 (job_tests p.order (length p.sizes) size algebra)) other

module _ (s : State) (size algebra : Token) (is_due : s.due ≡ due.Job) where
  job_number : (n : ℕ) (p : Progress) → s ≡ state_of n p → tests p (job size algebra) ≡ first 0 (job_tests s.order s.jobs size algebra)
  job_number n p is =
      ap (λ (d : Due). for_due d 14 (first 0 (job_tests p.order (length p.sizes) size algebra)) 14 14) (sym (ap (λ (x : State). x.due) is) ∙ is_due)
      ∙ sym (ap (λ (x : State). first 0 (job_tests x.order x.jobs size algebra)) is)

  pub job_stops : {algebras sizes : List ℕ} {reason : Reason} → reason_number reason ≡ first 0 (job_tests s.order s.jobs size algebra)
      → JobStepped s size algebra algebras sizes (Err reason) algebras sizes
  job_stops {algebras} {sizes} {reason} e = record {
    stepped = record { outcome = λ n p is. stopped n p (job size algebra) reason (e ∙ sym (job_number n p is)) };
    memory = λ n p is. jobs_stopped p (job size algebra) reason algebras sizes algebras sizes (e ∙ sym (job_number n p is));
  }

  module _ (none : 0 ≡ first 0 (job_tests s.order s.jobs size algebra)) where
    module _ {v : ℕ} {a : Algebra} (is_v : v ≡ value_of size) (is_a : a ≡ algebra_named algebra) where
      abbrev next : State
      next = record { due = due.Row; order = s.order; jobs = s.jobs + 1; algebra = a; size = v; left = v; at = s.at }

      job_gone : Stepped s (job size algebra) (Ok next)
      job_gone = record {
        outcome = λ n p is.
            gone n p (job size algebra) next (job_number n p is ∙ sym none)
            (λ i. record {
              due = due.Row;
              order = (is i).order;
              jobs = (ap (λ (x : State). x.jobs + 1) is ∙ sym (length-append p.sizes (value_of size ∷ []))) i;
              algebra = is_a i;
              size = is_v i;
              left = is_v i;
              at = (is i).at;
            });
      }

      job_kept : (n : ℕ) (p : Progress) (bs ss bs' ss' : List ℕ) → s ≡ state_of n p → Noted s.jobs a v bs ss bs' ss'
          → JobsKept p bs ss → JobsKept (after p (job size algebra)) bs' ss'
      job_kept n p bs ss bs' ss' is stored kept = record {
        algebras_hold =
            one_more p.algebras bs bs' s.jobs (number_of a) kept.algebras_hold (jobs_are ∙ sym kept.paired) stored.algebra_stored
            ∙ ap (λ (x : Algebra). padded (length bs') (p.algebras ++ (number_of x ∷ []))) is_a;
        sizes_hold =
            one_more p.sizes ss ss' s.jobs v kept.sizes_hold jobs_are stored.size_stored
            ∙ ap (λ (x : ℕ). padded (length ss') (p.sizes ++ (x ∷ []))) is_v;
        paired =
            length-append p.algebras (number_of (algebra_named algebra) ∷ [])
            ∙ ap (λ (x : ℕ). x + 1) kept.paired
            ∙ sym (length-append p.sizes (value_of size ∷ []));
      }
        where
          jobs_are : s.jobs ≡ length p.sizes
          jobs_are = ap (λ (x : State). x.jobs) is

      pub job_goes : {bs ss bs' ss' : List ℕ} → Noted s.jobs a v bs ss bs' ss'
          → JobStepped s size algebra bs ss (Ok next) bs' ss'
      job_goes {bs} {ss} {bs'} {ss'} stored = record {
        stepped = job_gone;
        memory = λ n p is. rw (goes p (job size algebra) (job_number n p is ∙ sym none)) (job_kept n p bs ss bs' ss' is stored);
      }

-- a row's line
row_undue : (d : Due) (k : ℕ) → (d ≡ due.Row → ⊥) → for_due d 14 14 k 14 ≡ for_due d 14 14 14 14
row_undue due.List k other = refl
row_undue due.Job k other = refl
row_undue due.Row k other = absurd (other refl)
row_undue due.Close k other = refl
row_undue due.Nothing k other = refl

pub row_not_due : {s : State} {tally : Tally} {at : ℕ} {r : Result State Reason} → (s.due ≡ due.Row → ⊥) → Undue s.due r → RowStepped s tally at r
row_not_due {s} {r = r} other e = record {
  outcome = λ n p ts is read.
      (undue s (row ts) r
      (λ q same.
      ap (λ (d : Due). for_due d 14 14 (first 0 (row_tests q.algebra q.size ts)) 14) same
      ∙ row_undue s.due (first 0 (row_tests q.algebra q.size ts)) other) e).outcome n p is;
}

module _ (s : State) (tally : Tally) (is_due : s.due ≡ due.Row) where
  row_number : {n : ℕ} {p : Progress} {ts : List Token} {at : ℕ} → s ≡ state_of n p → RowOf n p ts tally at
      → tests p (row ts) ≡ first 0 (tally_tests tally s.size)
  row_number {n} {p} {ts} is read =
      ap (λ (d : Due). for_due d 14 14 (first 0 (row_tests p.algebra p.size ts)) 14) (sym (ap (λ (x : State). x.due) is) ∙ is_due)
      ∙ sym
      (ap₂ (λ (c : Tally) (m : ℕ). first 0 (tally_tests c m)) read.counts (ap (λ (x : State). x.size) is)
      ∙ tally_tests_lem p.algebra p.size ts)

  pub row_stops : {at : ℕ} {reason : Reason} → reason_number reason ≡ first 0 (tally_tests tally s.size) → RowStepped s tally at (Err reason)
  row_stops {reason = reason} e = record {
    outcome = λ n p ts is read. stopped n p (row ts) reason (e ∙ sym (row_number is read));
  }

  pub row_goes : {at left : ℕ} {d : Due} → 0 ≡ first 0 (tally_tests tally s.size) → d ≡ due_after_row s.left → left ≡ s.left - 1
      → RowStepped s tally at (Ok (record { due = d; order = s.order; jobs = s.jobs; algebra = s.algebra; size = s.size; left = left; at = at }))
  row_goes none is_d isLeft = record {
    outcome = λ n p ts is read.
        gone n p (row ts) _ (row_number is read ∙ sym none)
        (λ i. record {
          due = (is_d ∙ ap (λ (x : State). due_after_row x.left) is) i;
          order = (is i).order;
          jobs = (is i).jobs;
          algebra = (is i).algebra;
          size = (is i).size;
          left = (isLeft ∙ ap (λ (x : State). x.left - 1) is) i;
          at = read.place i;
        });
  }

-- a bracket that closes a job or the list
close_undue : (d : Due) (k : ℕ) → (d ≡ due.Job → ⊥) → (d ≡ due.Close → ⊥) → for_due d 14 k 14 0 ≡ for_due d 14 14 14 14
close_undue due.List k other none = refl
close_undue due.Job k other none = absurd (other refl)
close_undue due.Row k other none = refl
close_undue due.Close k other none = absurd (none refl)
close_undue due.Nothing k other none = refl

pub close_not_due : {s : State} {r : Result State Reason} → (s.due ≡ due.Job → ⊥) → (s.due ≡ due.Close → ⊥) → Undue s.due r → Stepped s close r
close_not_due {s} {r} other none e =
    undue s close r
    (λ p is.
    ap (λ (d : Due). for_due d 14 (first 0 (list_end_tests (length p.sizes))) 14 0) is
    ∙ close_undue s.due (first 0 (list_end_tests (length p.sizes))) other none) e

module _ (s : State) where
  close_number : {d : Due} (n : ℕ) (p : Progress) → s.due ≡ d → s ≡ state_of n p → tests p close ≡ for_due d 14 (first 0 (list_end_tests s.jobs)) 14 0
  close_number n p is_due is =
      ap₂ (λ (d : Due) (x : ℕ). for_due d 14 x 14 0) (sym (ap (λ (x : State). x.due) is) ∙ is_due)
      (sym (ap (λ (x : State). first 0 (list_end_tests x.jobs)) is))

  -- the state after it, from what was due
  closed : {d e : Due} → s.due ≡ d → for_due d 14 (first 0 (list_end_tests s.jobs)) 14 0 ≡ 0 → e ≡ due_after_close d
      → Stepped s close (Ok (record { due = e; order = s.order; jobs = s.jobs; algebra = s.algebra; size = s.size; left = s.left; at = s.at }))
  closed is_due none is_e = record {
    outcome = λ n p is.
        gone n p close _ (close_number n p is_due is ∙ none)
        (λ i. record {
          due = (is_e ∙ ap due_after_close (sym is_due) ∙ ap (λ (x : State). due_after_close x.due) is) i;
          order = (is i).order;
          jobs = (is i).jobs;
          algebra = (is i).algebra;
          size = (is i).size;
          left = (is i).left;
          at = (is i).at;
        });
  }

  pub empty_list : s.due ≡ due.Job → s.jobs ≡ 0 → Stepped s close (Err JobsOutside)
  empty_list is_due none = record {
    outcome = λ n p is. stopped n p close JobsOutside (sym (close_number n p is_due is ∙ ap (λ (m : ℕ). first 0 (list_end_tests m)) none));
  }

  pub list_closed : s.due ≡ due.Job → (s.jobs ≡ 0 → ⊥)
      → Stepped s close (Ok (record { due = due.Nothing; order = s.order; jobs = s.jobs; algebra = s.algebra; size = s.size; left = s.left; at = s.at }))
  list_closed is_due some = closed is_due (rw (ne_eqb s.jobs 0 some)) refl

  pub job_closed : s.due ≡ due.Close
      → Stepped s close (Ok (record { due = due.Job; order = s.order; jobs = s.jobs; algebra = s.algebra; size = s.size; left = s.left; at = s.at }))
  job_closed is_due = closed is_due refl refl

-- a line of no form
pub unknown_not_due : {s : State} {r : Result State Reason} → Undue s.due r → Stepped s unknown r
unknown_not_due {s} {r} e = undue s unknown r (λ p is. ap (λ (d : Due). for_due d 14 14 14 14) is) e
