-- Document 01, "Feeder": the entries fed to the array.
use Rattle.std.specs.Prelude.{ℕ, List, cond, ◌&&◌, eqb, ltb}
use Rattle.semiring.specs.Algebra.{none_word_of, own_of}
use Rattle.semiring.specs.declared.Algebra.{Algebra}
use Rattle.closure.specs.Table.{Table, entries}
use Rattle.job_list.specs.Jobs.{Jobs, size, algebra, job_weights}

-- "a job is padded to N with none off the diagonal, and the whole diagonal, padded or not, is the own word"
abbrev pub padded_table : Algebra → ℕ → List ℕ → Table
padded_table a n w i j = cond (eqb i j) (own_of a) (cond (ltb i n && ltb j n) (entries n w i j) (none_word_of a))

-- The fed entry (i, j) of job q.
abbrev pub fed : Jobs → ℕ → Table
fed J q = padded_table (algebra J q) (size J q) (job_weights J q)
