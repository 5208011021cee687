-- "A job's weights are the part of the list's weights that begins where the earlier jobs' end, row by row; its results are the same part of the
-- results": entry (i, k) of a job of n points is word i · n + k of its part, in both.
use Rattle.std.specs.Prelude.{ℕ, ◌+◌, ◌*◌, ◌<◌, ◌≡◌, List, get_or}
use Rattle.job_list.specs.Jobs.{Jobs, size, part_of, place}

abbrev pub RowByRow : Type 0
RowByRow =
    (J : Jobs) (words : List ℕ) (q i k : ℕ) → i < size J q → k < size J q
    → get_or words (place J q i k) 0 ≡ get_or (part_of J.sizes words q) (i * size J q + k) 0
