-- Document 01, "Job text and bench program": the lines of a sheet.
use Rattle.std.specs.Prelude.{ℕ, List, [], ◌++◌, cond, ◌&&◌, eqb, ltb}
use Rattle.text.specs.Ascii.{ascii}
use Rattle.semiring.specs.Algebra.{none_word_of}
use Rattle.semiring.specs.declared.Algebra.{Algebra}
use Rattle.semiring.specs.declared.Algebra.TheVariants.{Reach, Distance, Steepest}
use Rattle.job_list.specs.Jobs.{Jobs, count, size, algebra}
use Rattle.systolic.specs.Tick.{leaves}
use Rattle.text.specs.Joined.{joined}
use Rattle.text.specs.Numeral.{shown}

-- A number after a space.
abbrev pub spaced : ℕ → List ℕ
spaced n = ascii " " ++ shown n

-- "A refusal prints only `(refused 14 3)`: number, line."
abbrev pub refused_line : ℕ → ℕ → List ℕ
refused_line number line = ascii "(refused" ++ spaced number ++ spaced line ++ ascii ")\n"

-- "First line: jobs, ticks made."
abbrev pub jobs_line : ℕ → ℕ → List ℕ
jobs_line jobs ticks = ascii "(jobs" ++ spaced jobs ++ ascii " ticks" ++ spaced ticks ++ ascii ")\n"

-- "none as `-` outside reach"
abbrev pub shown_word : Algebra → ℕ → List ℕ
shown_word Reach w = shown w
shown_word Distance w = cond (eqb w (none_word_of Distance)) (ascii "-") (shown w)
shown_word Steepest w = cond (eqb w (none_word_of Steepest)) (ascii "-") (shown w)

-- "Then job, row, column, tick, word", and document 02, K1: "Each `out` line gets the job's size after the column." So job q, row i,
-- column k, size n, tick t, word w.
abbrev pub out_line : Algebra → ℕ → ℕ → ℕ → ℕ → ℕ → ℕ → List ℕ
out_line a q i k n t w =
    ascii "(out" ++ spaced q ++ spaced i ++ spaced k ++ spaced n ++ spaced t ++ ascii " " ++ shown_word a w ++ ascii ")\n"

-- The words printed: entry (i, k) of job q.
abbrev pub Words : Type 0
Words = ℕ → ℕ → ℕ → ℕ

module _ (J : Jobs) (word : Words) where
  -- The line of entry (i, k) of job q, if it leaves on tick t.
  abbrev pub entry_line : ℕ → ℕ → ℕ → ℕ → List ℕ
  entry_line t i q k = cond (ltb i (size J q) && eqb t (leaves J q i k)) (out_line (algebra J q) q i k (size J q) t (word q i k)) []

  -- What leaves from row i on tick t.
  abbrev pub row_lines : ℕ → ℕ → List ℕ
  row_lines t i = joined (count J) (λ q. joined (size J q) (entry_line t i q))

  -- "by tick, then row"
  unfoldable pub sheet : ℕ → List ℕ
  sheet ticks = jobs_line (count J) ticks ++ joined ticks (λ t. joined J.order (row_lines t))
