-- What the sheet of an accepted text shows: demands 2 and 3 on the printed page.
use Rattle.std.specs.Prelude.{ℕ, ◌+◌, ◌-◌, ◌*◌, ◌<◌, ◌≤◌, ◌≡◌, List, [], length}
use Rattle.closure.specs.Elimination.{closure}
use Rattle.closure.specs.claims.Demand.{Best}
use Rattle.job_list.specs.Jobs.{Jobs, Entry, count, size, algebra, job_weights, jobs_of}
use Rattle.systolic.specs.Tick.{leaves}
use Rattle.systolic.specs.claims.Demand.{NamedJobs}
use Rattle.job_reading.specs.Reading.{accepted, reading_of}
use Rattle.sheet_form.specs.Lines.{Words, out_line, row_lines, sheet}
use Rattle.sheet_form.specs.Sheet.{sheet_of}

-- Each job's elimination words, in the job's algebra.
abbrev pub closure_words : Jobs → Words
closure_words J q = closure (algebra J q) (size J q) (job_weights J q)

-- The claim about an accepted text that reads to the jobs J.
pub record Shown (J : Jobs) (text : List ℕ) : Type 0 where
  -- Request K8: each job's number, as it was read, names the algebra that its words are closed and printed in.
  pub named : NamedJobs J
  -- The sheet is that of the elimination's words, each of its own job, over demand 3's ticks.
  pub words : sheet_of text ≡ sheet J (closure_words J) (4 * J.order * count J + 2 * J.order - 2)
  -- Each word is attained by a way of its job, and no way betters it.
  pub best : (q i k : ℕ) → Entry J q i k → Best (algebra J q) (size J q) (job_weights J q) i k (closure_words J q i k)
  -- Each entry is printed on the tick on which it leaves, which is one of those that are made, and its row has no other line there. The
  -- size beside the word is that of the job whose word it is.
  pub tick : (q i k : ℕ) → Entry J q i k → leaves J q i k < 4 * J.order * count J + 2 * J.order - 2
  pub line :
      (q i k : ℕ) → Entry J q i k
      → row_lines J (closure_words J) (leaves J q i k) i
      ≡ out_line (algebra J q) q i k (size J q) (leaves J q i k) (closure_words J q i k)
  -- Where no entry of a row leaves, nothing is printed.
  pub nothing :
      (t i : ℕ) → ((q k : ℕ) → Entry J q i k → t ≡ leaves J q i k → ⊥)
      → row_lines J (closure_words J) t i ≡ []

abbrev pub DemandSheet : Type 0
DemandSheet =
    (text : List ℕ) (order : ℕ) (algebras sizes weights : List ℕ)
    → reading_of 16 16 16384 text ≡ accepted order algebras sizes weights → Shown (jobs_of algebras order sizes weights) text

-- A page's length: 21 bytes for the first line, and 29 for each of 16 times 1,024 entries.
abbrev pub page_bytes : ℕ
page_bytes = 475157

-- It has room for every sheet.
abbrev pub Room : Type 0
Room = (text : List ℕ) → length (sheet_of text) ≤ page_bytes
