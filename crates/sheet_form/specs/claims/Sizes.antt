-- Document 02, K1: "Finishers hold the printed sheet against the card and can't see which stage of a hall it belongs to." What they
-- read off a line now. Jobs that fit an array are those of every accepted text (`Whole` in job_reading).
use Rattle.std.specs.Prelude.{ℕ, ◌≡◌, List, [], get_or}
use Rattle.text.specs.Pieces.{parts}
use Rattle.text.specs.Numeral.{decimal}
use Rattle.job_list.specs.Jobs.{Jobs, Entry, size}
use Rattle.job_list.specs.Fits.{ListFits}
use Rattle.systolic.specs.Tick.{leaves}
use Rattle.sheet_form.specs.Lines.{row_lines}
use Rattle.sheet_form.specs.claims.Demand.{closure_words}

-- What is printed for entry (i, k) of job q: its row on the tick on which it leaves.
abbrev pub printed_entry : Jobs → ℕ → ℕ → ℕ → List ℕ
printed_entry J q i k = row_lines J (closure_words J) (leaves J q i k) i

-- The number of a line's fifth part, as spaces part it.
abbrev pub fifth_number : List ℕ → ℕ
fifth_number line = decimal 0 (get_or (parts line) 4 [])

-- It is the size of the job whose entry the line shows.
abbrev pub SizeRead : Type 0
SizeRead = (J : Jobs) → ListFits J → (q i k : ℕ) → Entry J q i k → fifth_number (printed_entry J q i k) ≡ size J q

-- So a hall and its stage are told apart: where two entries, of one list or of two, are printed alike, their jobs have one size.
abbrev pub ToldApart : Type 0
ToldApart =
    (J J' : Jobs) → ListFits J → ListFits J' → (q i k q' i' k' : ℕ) → Entry J q i k → Entry J' q' i' k'
    → printed_entry J q i k ≡ printed_entry J' q' i' k' → size J q ≡ size J' q'
