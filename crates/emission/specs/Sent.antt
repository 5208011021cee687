-- What leaves the array at its last column, into a job's part of the results.
use Rattle.std.specs.Prelude.{ℕ, zero, suc, ◌+◌, ◌-◌, ◌*◌, ◌<◌, ◌≤◌, ◌≡◌, List, cond, ◌&&◌, length, get_or, set, ltb}
use Rattle.turns.specs.declared.band.Band.{Band}
use Rattle.turns.specs.declared.turn.Turn.{Turn}
use Rattle.stage.specs.declared.jobs.Job.{Job}

-- A word as entry (i, k) of a job of a size, into its part; none where the job has no such entry.
abbrev pub sent : ℕ → ℕ → ℕ → ℕ → List ℕ → List ℕ
sent size i k word part = cond (ltb i size && ltb k size) (set part (i * size + k) word) part

-- The last words of a in m rows from `from` on: row i sends entry (i, last - i).
unfoldable pub sent_rows : ℕ → ℕ → ℕ → List ℕ → ℕ → ℕ → List ℕ → List ℕ
sent_rows n size last planes from zero part = part
sent_rows n size last planes from (suc m) part =
    let i = from + m in
    sent size i (last - i) (get_or planes (n * n + (i * n + (n - 1))) 0) (sent_rows n size last planes from m part)

-- A band of the last column, and the part of a job for it.
pub record Sending (n size : ℕ) (band : Band) (planes part : List ℕ) : Type 0 where
  pub most : n ≤ 32
  pub job : length part ≡ size * size
  pub order : band.from ≤ band.to
  pub rows : band.to ≤ n
  pub points : band.to ≤ band.last + 1
  pub planes_fit : length planes ≡ 3 * (n * n)

-- An array whose cell (0, 0) has turn `head`, and the job of the cells two passes behind it.
pub record Emitting (n : ℕ) (head : Turn) (job : Job) (planes results : List ℕ) : Type 0 where
  pub least : 1 ≤ n
  pub most : n ≤ 32
  pub below : head.point < n
  pub early : 4 ≤ head.pass
  pub end : job.end ≡ job.start + job.size * job.size
  pub within : job.end ≤ length results
  pub few : length results ≤ 16384
  pub planes_fit : length planes ≡ 3 * (n * n)
