-- The walk over the lines of a text: what holds after each.
use Prim.Native.Nat.{ℕ, ◌+◌, ◌<◌, ◌≤◌}
use Prim.Native.Char.{code}
use native.Mathlib.Nat.{zero-min}
use native.Mathlib.Numerals.{add-one}
use native.Mathlib.Omega.{arith}
use mathlib.Core.Path.{◌≡◌, refl, sym, ap, subst, ◌∙◌}
use mathlib.Core.List.{List, map}
use lib.ListN.{length, drop, drop_of_length-le}
use Rattle.std.proofs.Common.{Result, Ok, Err}
use Rattle.refusals.specs.Reason.{reason_number}
use Rattle.refusals.specs.declared.Reason.{Reason}
use Rattle.text.specs.Pieces.{bytes_of, cut, lines, parts}
use Rattle.job_form.specs.Forms.{form_of}
use Rattle.text.specs.inner.Scan.{between, Until}
use Rattle.job_reading.specs.declared.state.Due.{Due}
use Rattle.job_reading.specs.declared.state.Due.TheVariants as due
use Rattle.job_reading.specs.declared.state.State.{State}
use Rattle.job_reading.specs.declared.answer.List.{List as Listed}
use Rattle.job_reading.specs.declared.answer.Refusal.{Refusal as Why}
use Rattle.job_reading.specs.Steps.{Progress, start, Step, go, stop, step}
use Rattle.job_reading.specs.Reading.{Reading, refused, refusal, ended, follow, turned, answer_of, answered}
use Rattle.job_steps.specs.inner.States.{state_of, AllCleared, Kept, Went, ended_by, Ended, Filled, Followed}
use Rattle.job_steps.specs.inner.Stepped.{Advanced}
use Rattle.job_reading.proofs.Insensitive.{follow_stop}

-- the lines from a place on
abbrev lines_from : ℕ → List ℕ → List (List ℕ)
lines_from from text = map bytes_of (cut (code "\n") from (drop from text))

pub record Reached (text algebras₀ sizes₀ weights₀ algebras sizes weights : List ℕ) (s : State) (from line : ℕ) : Type 0 where
  pub done : Progress
  pub kept : Kept done s algebras sizes weights
  pub follows : follow line (lines_from from text) (go done) ≡ follow 0 (lines text) (go start)
  pub below : line ≤ from
  pub algebras_length : length algebras ≡ length algebras₀
  pub sizes_length : length sizes ≡ length sizes₀
  pub weights_length : length weights ≡ length weights₀

abbrev whole : List ℕ → Reading
whole text = follow 0 (lines text) (go start)

start_state : (n : ℕ) → state_of 0 start ≡ state_of n start
start_state n = λ i. record { due = due.List; order = 0; jobs = 0; algebra = start.algebra; size = 0; left = 0; at = sym (zero-min n) i }

pub reached_start : (text algebras sizes weights : List ℕ) (s : State) → s ≡ state_of 0 start
    → AllCleared (length algebras) (length sizes) (length weights) algebras sizes weights → Reached text algebras sizes weights algebras sizes weights s 0 0
unfolding lines
reached_start text algebras sizes weights s e empty = record {
  done = start;
  kept = record {
    state = e ∙ start_state (length weights);
    jobs = record { algebras_hold = empty.algebras_zero.zeros; sizes_hold = empty.sizes_zero.zeros; paired = refl };
    weights_hold = empty.weights_zero.zeros;
  };
  follows = refl;
  below = omega arith;
  algebras_length = refl;
  sizes_length = refl;
  weights_length = refl;
}

went_on : (t : Step) (s : State) (algebras sizes weights : List ℕ) → Went t (Ok s) algebras sizes weights
    → (q : Progress) × (t ≡ go q) × Kept q s algebras sizes weights
went_on (go p) s algebras sizes weights (s', (e, k)) = let q : s ≡ s' = cc in (p, refl, rw q k)
went_on (stop k) s algebras sizes weights e = let z : ◌≡◌ {A = ℕ} 0 1 = cc in absurd (omega arith)

went_stop : (t : Step) (reason : Reason) (algebras sizes weights : List ℕ) → Went t (Err reason) algebras sizes weights → t ≡ stop (reason_number reason)
went_stop (go p) reason algebras sizes weights (s', (e, h)) = let z : ◌≡◌ {A = ℕ} 0 1 = cc in absurd (omega arith)
went_stop (stop j) reason algebras sizes weights e = let q : j ≡ reason_number reason = cc in ap stop q

-- a text that ends before its list does
pub early : (d : Due) (s : State) (line : ℕ) → (d ≡ due.Nothing → ⊥) → turned (refusal 17 line) ≡ ended_by d s line
early due.List s line some = refl
early due.Job s line some = refl
early due.Row s line some = refl
early due.Close s line some = refl
early due.Nothing s line some = absurd (some refl)

ended_answer : (d : Due) (n line : ℕ) (p : Progress) → ended_by d (state_of n p) line ≡ answer_of (ended d line p)
ended_answer due.List n line p = refl
ended_answer due.Job n line p = refl
ended_answer due.Row n line p = refl
ended_answer due.Close n line p = refl
ended_answer due.Nothing n line p = refl

ended_filled : (d : Due) (line : ℕ) (p : Progress) (s : State) (algebras sizes weights : List ℕ) → Kept p s algebras sizes weights
    → Filled (ended d line p) algebras sizes weights
ended_filled due.List line p s algebras sizes weights k = tt
ended_filled due.Job line p s algebras sizes weights k = tt
ended_filled due.Row line p s algebras sizes weights k = tt
ended_filled due.Close line p s algebras sizes weights k = tt
ended_filled due.Nothing line p s algebras sizes weights k = (k.jobs.algebras_hold, k.jobs.sizes_hold, k.weights_hold)

module _ {text algebras₀ sizes₀ weights₀ algebras sizes weights : List ℕ} {s : State} {from line : ℕ}
    (c : Reached text algebras₀ sizes₀ weights₀ algebras sizes weights s from line) where
  -- one line more
  follow_line : {end : ℕ} → from < length text → Until (code "\n") from text end
      → follow (line + 1) (lines_from (end + 1) text) (step c.done (form_of (parts (between from end text)))) ≡ whole text
  unfolding follow
  follow_line {end} h u = rw (add-one line) (sym (ap (λ (ls : List (List ℕ)). follow line ls (go c.done)) (ap (map bytes_of) (u.piece h))) ∙ c.follows)

  module _ {end : ℕ} {r : Result State Reason} {algebras' sizes' weights' : List ℕ} (h : from < length text) (u : Until (code "\n") from text end)
      (LineRead : Advanced (between from end text) s algebras sizes weights r algebras' sizes' weights') where
    went : Went (step c.done (form_of (parts (between from end text)))) r algebras' sizes' weights'
    went = LineRead.goes c.done c.kept

    pub reached_on : {s' : State} → r ≡ Ok s' → length algebras' ≡ length algebras → length sizes' ≡ length sizes → length weights' ≡ length weights
        → Reached text algebras₀ sizes₀ weights₀ algebras' sizes' weights' s' (end + 1) (line + 1)
    reached_on {s'} is d e f = on (went_on (step c.done (form_of (parts (between from end text)))) s' algebras' sizes' weights' (rw is at went))
      where
        on : (q : Progress) × (step c.done (form_of (parts (between from end text))) ≡ go q) × Kept q s' algebras' sizes' weights'
            → Reached text algebras₀ sizes₀ weights₀ algebras' sizes' weights' s' (end + 1) (line + 1)
        on g = record {
          done = g.0;
          kept = g.2;
          follows = ap (follow (line + 1) (lines_from (end + 1) text)) (sym g.1) ∙ follow_line h u;
          below = omega (arith, c.below, u.least);
          algebras_length = d ∙ c.algebras_length;
          sizes_length = e ∙ c.sizes_length;
          weights_length = f ∙ c.weights_length;
        }

    refusal_is : {reason : Reason} → r ≡ Err reason → refused (refusal (reason_number reason) (line + 1)) ≡ whole text
    refusal_is {reason} is =
        sym (follow_stop (line + 1) (reason_number reason) (lines_from (end + 1) text))
        ∙ ap (follow (line + 1) (lines_from (end + 1) text))
        (sym (went_stop (step c.done (form_of (parts (between from end text)))) reason algebras' sizes' weights' (rw is at went)))
        ∙ follow_line h u

    pub reached_stop : {reason : Reason} {answer : Result Listed Why} → r ≡ Err reason → answered answer ≡ turned (refusal (reason_number reason) (line + 1))
        → Followed (whole text) answer algebras' sizes' weights'
    reached_stop {reason} is answers =
        let e : refused (refusal (reason_number reason) (line + 1)) ≡ whole text = refusal_is is in
        record { outcome = answers ∙ ap answer_of e; memory = subst (λ (x : Reading). Filled x algebras' sizes' weights') e tt }

  the_end : length text ≤ from → ended c.done.due line c.done ≡ whole text
  unfolding follow cut
  the_end h = sym (ap (λ (l : List ℕ). follow line (map bytes_of (cut (code "\n") from l)) (go c.done)) (drop_of_length-le text h)) ∙ c.follows

  pub reached_end : {r : Result Listed Why} → length text ≤ from → Ended s line r → Followed (whole text) r algebras sizes weights
  reached_end h q = record {
    outcome =
        q.outcome
        ∙ ap (λ (x : State). ended_by x.due x line) c.kept.state
        ∙ ended_answer c.done.due (length weights) line c.done
        ∙ ap answer_of (the_end h);
    memory =
        subst (λ (x : Reading). Filled x algebras sizes weights) (the_end h)
        (ended_filled c.done.due line c.done s algebras sizes weights c.kept);
  }
