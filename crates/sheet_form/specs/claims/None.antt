-- Document 01: "none as `-` outside reach". Request K8: "Each job its own algebra", so in a mixed list `-` goes by the algebra of the job whose
-- word a line shows. What is read off a line; accepted lists are those of every accepted text (`Whole` in job_reading).
use Rattle.std.specs.Prelude.{ℕ, ◌≡◌, List, [], ◌++◌, get_or}
use Rattle.semiring.specs.Algebra.{none_word_of}
use Rattle.semiring.specs.declared.Algebra.TheVariants.{Reach}
use Rattle.text.specs.Ascii.{ascii}
use Rattle.text.specs.Numeral.{shown}
use Rattle.text.specs.Pieces.{parts}
use Rattle.job_list.specs.Jobs.{Jobs, Entry, algebra}
use Rattle.job_list.specs.Fits.{ListAccepted}
use Rattle.sheet_form.specs.claims.Demand.{closure_words}
use Rattle.sheet_form.specs.claims.Sizes.{printed_entry}

-- A line's seventh part, as spaces part it: the word and the line's end.
abbrev pub seventh_part : List ℕ → List ℕ
seventh_part line = get_or (parts line) 6 []

-- What is read for entry (i, k) of job q.
pub record WordRead (J : Jobs) (q i k : ℕ) : Type 0 where
  -- a reach job has no `-`: none is its number, 0
  pub in_reach : algebra J q ≡ Reach → seventh_part (printed_entry J q i k) ≡ shown (closure_words J q i k) ++ ascii ")\n"
  -- a job of another algebra has `-` for its none
  pub none :
      (algebra J q ≡ Reach → ⊥) → closure_words J q i k ≡ none_word_of (algebra J q)
      → seventh_part (printed_entry J q i k) ≡ ascii "-)\n"
  -- and a number for every other word
  pub other :
      (closure_words J q i k ≡ none_word_of (algebra J q) → ⊥)
      → seventh_part (printed_entry J q i k) ≡ shown (closure_words J q i k) ++ ascii ")\n"

abbrev pub NoneRead : Type 0
NoneRead = (J : Jobs) → ListAccepted J → (q i k : ℕ) → Entry J q i k → WordRead J q i k
