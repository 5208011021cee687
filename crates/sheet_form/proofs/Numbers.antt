-- The numbers of a sheet are small.
use Prim.Native.Nat.{ℕ, zero, suc, ◌+◌, ◌≤◌}
use native.Mathlib.Nat.{le_trans}
use native.Mathlib.Omega.{arith}
use mathlib.Core.Path.{◌≡◌, refl}
use mathlib.Core.List.{List, [], ◌∷◌}
use mathlib.Core.Bool.{Bool, true, false, cond}
use lib.ListN.{length, length-map}
use lib.Dec.{eqb, ltb}
use borrow.Author.Tests.{ltb-false}
use Rattle.semiring.specs.Algebra.{top_of}
use Rattle.semiring.specs.declared.Algebra.{Algebra}
use Rattle.semiring.specs.declared.Algebra.TheVariants.{Reach, Distance, Steepest}
use Rattle.closure.proofs.Equations.{closure_word}
use Rattle.job_list.specs.Jobs.{Jobs, size, algebra, job_weights, jobs_of}
use Rattle.systolic.specs.State.{total}
use Rattle.systolic.specs.Tick.{leaves}
use Rattle.systolic.proofs.Totals.{total_most, tick_within}
use Rattle.text.proofs.Numerals.{numerals}
use Rattle.sheet_form.specs.claims.Demand.{closure_words}
use Rattle.refusals.proofs.First.{first_most}
use Rattle.text.specs.Pieces.{Piece, pieced, cut, bytes_of, lines, parts}
use Rattle.job_form.specs.Forms.{Form, list, job, row, close, skipped, unknown, form_of}
use Rattle.job_reading.specs.declared.state.Due.{Due}
use Rattle.job_reading.specs.declared.state.Due.TheVariants as due
use Rattle.job_reading.specs.Steps.{Progress, for_due, list_tests, job_tests, row_tests, list_end_tests, tests, after, Step, go, stop, start, proceed, step}
use Rattle.job_reading.specs.Reading.{Refusal, Reading, refused, accepted, ended, follow, unless, reading_of}
use Rattle.job_list.specs.Fits.{ListAccepted}
use Rattle.job_reading.proofs.Whole.{whole}
use Rattle.sheet_form.specs.claims.Numbers.{RefusalNumbers, ListNumbersClaim}

due_most : (d : Due) {l j r c : ℕ} → l ≤ 18 → j ≤ 18 → r ≤ 18 → c ≤ 18 → for_due d l j r c ≤ 18
due_most due.List hl hj hr hc = hl
due_most due.Job hl hj hr hc = hj
due_most due.Row hl hj hr hc = hr
due_most due.Close hl hj hr hc = hc
due_most due.Nothing hl hj hr hc = omega arith

tests_most : (p : Progress) (f : Form) → tests p f ≤ 18
tests_most p (list n) = due_most p.due (first_most 18 (list_tests n) refl) (omega arith) (omega arith) (omega arith)
tests_most p (job n a) =
    due_most p.due (omega arith) (first_most 18 (job_tests p.order (length p.sizes) n a) refl) (omega arith) (omega arith)
tests_most p (row ts) =
    due_most p.due (omega arith) (omega arith) (first_most 18 (row_tests p.algebra p.size ts) refl) (omega arith)
tests_most p close = due_most p.due (omega arith) (first_most 18 (list_end_tests (length p.sizes)) refl) (omega arith) (omega arith)
tests_most p unknown = due_most p.due (omega arith) (omega arith) (omega arith) (omega arith)
tests_most p skipped = omega arith

-- a refusal so far
StepMost : Step → Type 0
StepMost (go p) = Unit {0}
StepMost (stop k) = k ≤ 18

step_most : (p : Progress) (f : Form) → StepMost (step p f)
unfolding StepMost step
step_most p f = by (tests p f) (tests_most p f)
  where
    by : (k : ℕ) → k ≤ 18 → StepMost (proceed k (after p f))
    by zero h = tt
    by (suc k) h = h

-- a reading's refusal with at most n lines
Most : ℕ → Reading → Type 0
Most n (refused r) = (r.number ≤ 18) × (r.line ≤ n)
Most n (accepted order algebras sizes weights) = Unit {0}

ended_most : (d : Due) (n line : ℕ) (p : Progress) → line ≤ n → Most n (ended d line p)
unfolding Most
ended_most due.List n line p h = (omega arith, h)
ended_most due.Job n line p h = (omega arith, h)
ended_most due.Row n line p h = (omega arith, h)
ended_most due.Close n line p h = (omega arith, h)
ended_most due.Nothing n line p h = tt

follow_most : (n line : ℕ) (ls : List (List ℕ)) (t : Step) → StepMost t → line + length ls ≤ n → Most n (follow line ls t)
unfolding follow StepMost Most
follow_most n line [] (go p) s h = ended_most p.due n line p (omega arith)
follow_most n line [] (stop k) s h = (s, omega arith)
follow_most n line (l ∷ ls) (go p) s h = follow_most n (suc line) ls (step p (form_of (parts l))) (step_most p (form_of (parts l))) (omega arith)
follow_most n line (l ∷ ls) (stop k) s h = (s, omega arith)

-- A text has no more lines than bytes.
pieced_length : (b : Bool) (at x : ℕ) (ps : List Piece) → length (pieced b at x ps) ≤ suc (length ps)
pieced_length true at x ps = omega arith
pieced_length false at x [] = omega arith
pieced_length false at x (p ∷ ps) = omega arith

cut-length : (end at : ℕ) (l : List ℕ) → length (cut end at l) ≤ length l
unfolding cut
cut-length end at [] = omega arith
cut-length end at (b ∷ l) = omega (arith, pieced_length (eqb b end) at b (cut end (suc at) l), cut-length end (suc at) l)

lines_length : (text : List ℕ) → length (lines text) ≤ length text
unfolding lines
lines_length text = rw (length-map (cut 10 0 text) bytes_of) (cut-length 10 0 text)

reading_most : (text : List ℕ) → Most 65536 (reading_of 16 16 16384 text)
unfolding reading_of Most StepMost
reading_most text = by (ltb 65536 (length text)) refl
  where
    by : (b : Bool) → ltb 65536 (length text) ≡ b → Most 65536 (unless (cond b 13 0) (follow 0 (lines text) (go start)))
    by true e = (omega arith, omega arith)
    by false e =
        follow_most 65536 0 (lines text) (go start) tt (omega (arith, ltb-false 65536 (length text) e, lines_length text))

small : (text : List ℕ) (r : Refusal) → reading_of 16 16 16384 text ≡ refused r → (r.number ≤ 18) × (r.line ≤ 65536)
unfolding Most
small text r e = rw e at (reading_most text)

pub refusal_numbers : RefusalNumbers
refusal_numbers text r e =
    let (number, line) = small text r e in
    (numerals r.number (omega arith), numerals r.line (omega arith))

pub top_most : (a : Algebra) → top_of a ≤ 65535
top_most Reach = omega arith
top_most Distance = omega arith
top_most Steepest = omega arith

pub list_numbers : ListNumbersClaim
list_numbers text order algebras sizes weights e =
    let list : ListAccepted (jobs_of algebras order sizes weights) = whole 16 16 16384 text order algebras sizes weights e in
    let J : Jobs = jobs_of algebras order sizes weights in
    let within = list.fits.ranged in
    let short = total_most within.most within.few in
    record {
      jobs = numerals (length sizes) (omega (arith, within.few));
      ticks = numerals (total order (length sizes)) (omega (arith, short));
      sizes = λ q h. let (least, most) = list.fits.sizes_fit q h in numerals (size J q) (omega (arith, within.most));
      places = λ q i k at.
          let fits : size J q ≤ order = (list.fits.sizes_fit q at.job).1 in (
            numerals q (omega (arith, at.job, within.few)),
            numerals i (omega (arith, at.row, within.most)),
            numerals k (omega (arith, at.column, within.most)),
          );
      tick = λ q i k at. numerals (leaves J q i k) (omega (arith, tick_within list.fits at, short));
      words = λ q i k at.
          let word = le_trans (closure_word (algebra J q) (size J q) (job_weights J q) (list.words q) i k) (top_most (algebra J q)) in
          numerals (closure_words J q i k) (omega arith);
    }
