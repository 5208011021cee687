-- Document 01, row Text of "Where each call turns back", with K8's algebras: what reading a whole text gives.
use Rattle.std.specs.Prelude.{ℕ, zero, suc, ◌≡◌, List, [], ◌∷◌, Bool, not, ◌||◌, length, eqb, ltb, Result, Ok, Err}
use Rattle.refusals.specs.Reason.{reason_number}
use Rattle.refusals.specs.Tests.{first}
use Rattle.text.specs.Pieces.{lines, parts}
use Rattle.job_form.specs.Forms.{form_of}
use Rattle.job_form.specs.Buffer.{padded}
use Rattle.job_reading.specs.Steps.{Progress, by_due, Step, go, stop, start, step}
use Rattle.job_reading.specs.declared.state.Due.{Due}
use Rattle.job_reading.specs.declared.answer.Refusal.{Refusal as Why}
use Rattle.job_reading.specs.declared.answer.List.{List as Listed}

-- "number, line"
pub record Refusal : Type 0 where
  pub number : ℕ
  pub line : ℕ

abbrev pub refusal : ℕ → ℕ → Refusal
refusal number line = record { number = number; line = line }

-- A refusal, or order, algebras by number, sizes and weights.
pub data Reading : Type 0 where
  refused : Refusal → Reading
  accepted : ℕ → List ℕ → List ℕ → List ℕ → Reading

-- "last, 17 the text ends early", on the last line.
abbrev pub ended : Due → ℕ → Progress → Reading
ended d line p =
    let early : Reading = refused (refusal 17 line) in
    by_due early early early early (accepted p.order p.algebras p.sizes p.weights) d

-- "then line by line": the lines to come, and what the `line` lines before them led to.
unfoldable pub follow : ℕ → List (List ℕ) → Step → Reading
follow line [] (stop number) = refused (refusal number line)
follow line [] (go p) = ended p.due line p
follow line (l ∷ ls) (stop number) = refused (refusal number line)
follow line (l ∷ ls) (go p) = follow (suc line) ls (step p (form_of (parts l)))

-- "0 for 18 and 13"
abbrev pub unless : ℕ → Reading → Reading
unless zero r = r
unless (suc k) r = refused (refusal (suc k) 0)

-- "18 sizes not 16 or weights not 16,384 words; 13 over 65,536 bytes", from the lengths of the buffers and the text. K8: "16 algebras ..;
-- another length of theirs is 18".
abbrev pub length_tests : ℕ → ℕ → ℕ → ℕ → List (Bool × ℕ)
length_tests algebras sizes weights bytes =
    (not (eqb algebras 16) || (not (eqb sizes 16) || not (eqb weights 16384)), 18)
    ∷ (ltb 65536 bytes, 13)
    ∷ []

unfoldable pub reading_of : ℕ → ℕ → ℕ → List ℕ → Reading
reading_of algebras sizes weights text =
    unless (first 0 (length_tests algebras sizes weights (length text))) (follow 0 (lines text) (go start))

-- "zeroes both buffers at any length"; K8: "a refusal zeroes them as well"
abbrev pub algebras_in : Reading → List ℕ
algebras_in (refused r) = []
algebras_in (accepted order algebras sizes weights) = algebras

abbrev pub sizes_in : Reading → List ℕ
sizes_in (refused r) = []
sizes_in (accepted order algebras sizes weights) = sizes

abbrev pub weights_in : Reading → List ℕ
weights_in (refused r) = []
weights_in (accepted order algebras sizes weights) = weights

-- The buffers after a call, from the lengths of all three and the text.
abbrev pub algebras_after : ℕ → ℕ → ℕ → List ℕ → List ℕ
algebras_after algebras sizes weights text = padded algebras (algebras_in (reading_of algebras sizes weights text))

abbrev pub sizes_after : ℕ → ℕ → ℕ → List ℕ → List ℕ
sizes_after algebras sizes weights text = padded sizes (sizes_in (reading_of algebras sizes weights text))

abbrev pub weights_after : ℕ → ℕ → ℕ → List ℕ → List ℕ
weights_after algebras sizes weights text = padded weights (weights_in (reading_of algebras sizes weights text))

-- "The reader gives N, .. Q": the paper's numbers for an answer.
pub data Answer : Type 0 where
  turned : Refusal → Answer
  given : ℕ → ℕ → Answer

abbrev pub answer_of : Reading → Answer
answer_of (refused r) = turned r
answer_of (accepted order algebras sizes weights) = given order (length sizes)

abbrev pub told : Why → Refusal
told why = refusal (reason_number why.reason) why.line

abbrev pub answered : Result Listed Why → Answer
answered (Ok list) = given list.order list.jobs
answered (Err why) = turned (told why)

-- What a call of `read` answers and leaves, from the lengths of the three buffers and the text.
pub record ReadInto (l m n : ℕ) (text : List ℕ) (r : Result Listed Why) (algebras sizes weights : List ℕ) : Type 0 where
  pub outcome : answered r ≡ answer_of (reading_of l m n text)
  pub algebras_left : algebras ≡ algebras_after l m n text
  pub sizes_left : sizes ≡ sizes_after l m n text
  pub weights_left : weights ≡ weights_after l m n text
