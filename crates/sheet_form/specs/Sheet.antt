-- Document 01, "Job text and bench program": the printed sheet of a text.
use Rattle.std.specs.Prelude.{ℕ, List, get_or, replicate}
use Rattle.job_list.specs.Jobs.{Jobs, place, words_of, jobs_of}
use Rattle.systolic.specs.State.{state_length, scratch_length}
use Rattle.systolic.specs.Start.{state_after_start}
use Rattle.systolic.specs.Run.{Ran, ran}
use Rattle.job_reading.specs.Reading.{Reading, refused, accepted, reading_of}
use Rattle.sheet_form.specs.Lines.{Words, refused_line, sheet}

-- What start leaves in a state of zeros.
abbrev pub started_state : List ℕ → ℕ → List ℕ → List ℕ → List ℕ
started_state algebras order sizes weights = state_after_start algebras order sizes weights (replicate (state_length order) 0)

-- The whole run of a list: from what start leaves, with the largest allowance, which is above every list's total.
abbrev pub whole_run : List ℕ → ℕ → List ℕ → List ℕ → Ran
whole_run algebras order sizes weights =
    ran (started_state algebras order sizes weights) algebras sizes weights 65535 (replicate (scratch_length order) 0) (replicate (words_of sizes) 0)

-- The words that a run left in the results.
abbrev pub result_words : Jobs → Ran → Words
result_words J after q i k = get_or after.results (place J q i k) 0

abbrev pub sheet_from : Jobs → Ran → List ℕ
sheet_from J after = sheet J (result_words J after) after.made

abbrev pub printed : Reading → List ℕ
printed (refused r) = refused_line r.number r.line
printed (accepted order algebras sizes weights) =
    sheet_from (jobs_of algebras order sizes weights) (whole_run algebras order sizes weights)

-- The printed bytes for every text.
abbrev pub sheet_of : List ℕ → List ℕ
sheet_of text = printed (reading_of 16 16 16384 text)
