-- A row that was read into a buffer.
use Rattle.std.specs.Prelude.{ℕ, min, ◌≡◌, List, ◌++◌, map, length}
use Rattle.semiring.specs.declared.Algebra.{Algebra}
use Rattle.text.specs.inner.Scan.{parts_from}
use Rattle.job_form.specs.declared.rows.Tally.{Tally}
use Rattle.job_form.specs.Words.{word_of}
use Rattle.job_form.specs.Forms.{words}
use Rattle.job_form.specs.Buffer.{padded}
use Rattle.job_form.specs.inner.Tallies.{no_tally, tallied}

-- A buffer that holds a list's words, and the place after them.
pub record Held (ws : List ℕ) (at : ℕ) (l : List ℕ) : Type 0 where
  pub content : l ≡ padded (length l) ws
  pub place : at ≡ min (length ws) (length l)

-- The words of a row, which are the parts of a line from `from` on, are stored at a place of the weights.
pub record RowRead (a : Algebra) (line : List ℕ) (from at : ℕ) (old : List ℕ) (tally : Tally) (next : ℕ) (new : List ℕ) : Type 0 where
  pub counts : tally ≡ tallied a no_tally (words (parts_from from line))
  pub size : length new ≡ length old
  pub holds : (ws : List ℕ) → Held ws at old → Held (ws ++ map (word_of a) (words (parts_from from line))) next new
