-- A cell's turn, counted from four passes before the first: pass 4 + 4 * q + p is pass p of job q.
use Rattle.std.specs.Prelude.{ℕ, ◌+◌, ◌-◌, ◌*◌, ◌/◌, ◌%◌, ◌<◌, ◌≤◌, ◌≡◌, Bool, ◌&&◌, eqb, leb, ltb}
use Rattle.turns.specs.declared.turn.Turn.{Turn}

-- The turn s is step u of an array of order n.
pub record At (n u : ℕ) (s : Turn) : Type 0 where
  pub below : s.point < n
  pub at : n * s.pass + s.point ≡ u

-- Whether a pass is one of a list of `count` jobs.
abbrev pub live : ℕ → ℕ → Bool
live count pass = leb 4 pass && ltb pass (4 + 4 * count)

abbrev pub job_in : ℕ → ℕ
job_in pass = pass / 4 - 1

abbrev pub pass_in : ℕ → ℕ
pass_in pass = pass % 4

-- Whether a pass is the first of a job.
abbrev pub begins : ℕ → ℕ → Bool
begins count pass = live count pass && eqb (pass_in pass) 0

-- Whether a cell in a pass adds to its c.
abbrev pub sums : ℕ → ℕ → Bool
sums count pass = live count pass && ltb (pass_in pass) 3

-- The step of a turn.
abbrev pub step_of : ℕ → Turn → ℕ
step_of n s = n * s.pass + s.point

-- Cell (i, j) is at point k of a pass when cell (0, 0) is at step u.
pub record Phase (n u i j pass k : ℕ) : Type 0 where
  pub below : k < n
  pub at : n * pass + k + (i + j) ≡ u

-- The turn of cell (0, 0) on some tick of an array of order n on `count` jobs: step t + 4 * n is that of tick t.
pub record Head (n count : ℕ) (s : Turn) : Type 0 where
  pub least : 1 ≤ n
  pub most : n ≤ 32
  pub few : count ≤ 16
  pub below : s.point < n
  pub early : 4 ≤ s.pass
  pub late : n * s.pass + s.point ≤ 4096
