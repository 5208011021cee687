-- Where the jobs lie in the list's weights and in the results.
use Rattle.std.specs.Prelude.{ℕ, ◌+◌, ◌*◌, ◌<◌, ◌≤◌, ◌≡◌, List, true, false, length, get_or}
use Rattle.semiring.specs.declared.Algebra.{Algebra}
use Rattle.job_list.specs.Jobs.{algebra_of, offset, words_of}
use Rattle.turns.specs.Turn.{live, job_in}
use Rattle.stage.specs.declared.jobs.Job.{Job}

-- Where the jobs' parts begin.
pub record Listed (sizes starts : List ℕ) : Type 0 where
  pub few : length sizes ≤ 16
  pub room : length sizes ≤ length starts
  pub start : (q : ℕ) → q < length sizes → get_or starts q 0 ≡ offset sizes q
  pub words : words_of sizes ≤ 16384

-- The same, and an algebra for each job.
pub record Findable (algebras sizes starts : List ℕ) : Type 0 where
  pub one_each : length algebras ≡ length sizes
  pub listed : Listed sizes starts

-- The algebra of the job of a pass.
pub record AlgebraIn (algebras sizes : List ℕ) (pass : ℕ) (a : Algebra) : Type 0 where
  pub is : live (length sizes) pass ≡ true → a ≡ algebra_of algebras (job_in pass)

-- The job of a pass: its algebra, its size and its part of the list's words. Where the pass is of none, a job of no points.
pub record Found (algebras sizes : List ℕ) (pass : ℕ) (job : Job) : Type 0 where
  pub algebra : AlgebraIn algebras sizes pass job.algebra
  pub end : job.end ≡ job.start + job.size * job.size
  pub within : job.end ≤ words_of sizes
  pub size : live (length sizes) pass ≡ true → job.size ≡ get_or sizes (job_in pass) 0
  pub start : live (length sizes) pass ≡ true → job.start ≡ offset sizes (job_in pass)
  pub idle : live (length sizes) pass ≡ false → job.size ≡ 0
