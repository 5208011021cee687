-- What comes in at the edges: n words for the top of the array, then n for its left.
use Rattle.std.specs.Prelude.{ℕ, ◌+◌, ◌-◌, ◌*◌, ◌<◌, ◌≤◌, ◌≡◌, List, cond, length, get_or, take, drop, eqb}
use Rattle.semiring.specs.declared.Algebra.{Algebra}
use Rattle.systolic.specs.Feeder.{padded_table}
use Rattle.turns.specs.declared.band.Band.{Band}
use Rattle.turns.specs.declared.turn.Turn.{Turn}
use Rattle.turns.specs.Turn.{Phase, pass_in, step_of}
use Rattle.stage.specs.declared.jobs.Job.{Job}

-- Entry (i, j) of a job of a size, padded.
pub record Padded (algebra : Algebra) (size : ℕ) (weights : List ℕ) (i j word : ℕ) : Type 0 where
  pub is : word ≡ padded_table algebra size weights i j

-- A band of the edges, and a job of a size for it.
pub record Feeding (n size : ℕ) (band : Band) (weights edges : List ℕ) : Type 0 where
  pub job : length weights ≡ size * size
  pub most : n ≤ 32
  pub within : band.to ≤ n
  pub order : band.from ≤ band.to
  pub points : band.to ≤ band.last + 1
  pub room : 2 * n ≤ length edges

-- Its cells get the job's entries, cell x at point `last - x`; the other words are as they were.
pub record Fed (algebra : Algebra) (n size : ℕ) (band : Band) (weights old new : List ℕ) : Type 0 where
  pub length_kept : length new ≡ length old
  pub top : (x : ℕ) → band.from ≤ x → x < band.to → get_or new x 0 ≡ padded_table algebra size weights (band.last - x) x
  pub left : (x : ℕ) → band.from ≤ x → x < band.to → get_or new (n + x) 0 ≡ padded_table algebra size weights x (band.last - x)
  pub top_kept : (x : ℕ) → x < n → (band.from ≤ x → x < band.to → ⊥) → get_or new x 0 ≡ get_or old x 0
  pub left_kept : (x : ℕ) → x < n → (band.from ≤ x → x < band.to → ⊥) → get_or new (n + x) 0 ≡ get_or old (n + x) 0

-- An array whose cell (0, 0) has turn `head` and is on the job.
pub record Filling (n : ℕ) (head : Turn) (job : Job) (weights planes edges : List ℕ) : Type 0 where
  pub least : 1 ≤ n
  pub most : n ≤ 32
  pub below : head.point < n
  pub early : 1 ≤ head.pass
  pub end : job.end ≡ job.start + job.size * job.size
  pub within : job.end ≤ length weights
  pub few : length weights ≤ 16384
  pub planes_fit : length planes ≡ 3 * (n * n)
  pub room : 2 * n ≤ length edges

-- The entry (i, j) of the job, padded.
abbrev pub entry_of : Job → List ℕ → ℕ → ℕ → ℕ
entry_of job weights = padded_table job.algebra job.size (take (job.end - job.start) (drop job.start weights))

-- A cell of the edges in the first pass of a job gets the entry for its point, any other the word at the row's or the column's end.
pub record Filled (n : ℕ) (head : Turn) (job : Job) (weights planes edges : List ℕ) : Type 0 where
  pub top : (j pass k : ℕ) → j < n → Phase n (step_of n head) 0 j pass k
      → get_or edges j 0
      ≡ cond (eqb (pass_in pass) 0) (entry_of job weights k j) (get_or planes (2 * (n * n) + ((n - 1) * n + j)) 0)
  pub left : (i pass k : ℕ) → i < n → Phase n (step_of n head) i 0 pass k
      → get_or edges (n + i) 0
      ≡ cond (eqb (pass_in pass) 0) (entry_of job weights i k) (get_or planes (n * n + (i * n + (n - 1))) 0)
