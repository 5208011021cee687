-- A list of jobs that fits an array.
use Rattle.std.specs.Prelude.{ℕ, zero, suc, ◌≤◌, ◌<◌, ◌≡◌, List, Bool, false, ◌||◌, ltb, length, get_or}
use Rattle.memory.specs.Lists.{any}
use Rattle.refusals.specs.Tests.{outside}
use Rattle.semiring.specs.Algebra.{Word, top_of}
use Rattle.semiring.specs.Words.{any_above}
use Rattle.job_list.specs.Jobs.{Jobs, count, size, algebra_of, algebra, words_of, part_of, job_weights}

-- "1 algebra unknown": the numbers are 0, 1 and 2. Request K8: "Test 1 looks at every algebra lent".
abbrev pub any_unknown : List ℕ → Bool
any_unknown = any (ltb 2)

-- "a job's size outside 1 to N"
abbrev pub any_outside : ℕ → List ℕ → Bool
any_outside order = any (outside 1 order)

-- "5 a reach word above 1", in one of the first q jobs: each job's words by its own algebra
unfoldable pub above_before : List ℕ → List ℕ → List ℕ → ℕ → Bool
above_before algebras sizes weights zero = false
above_before algebras sizes weights (suc q) =
    above_before algebras sizes weights q || any_above (top_of (algebra_of algebras q)) (part_of sizes weights q)

abbrev pub job_above : List ℕ → List ℕ → List ℕ → Bool
job_above algebras sizes weights = above_before algebras sizes weights (length sizes)

-- "An array has order N, 1 to 32 ..; a list has Q jobs, 1 to 16"
pub record Ranged (order count : ℕ) : Type 0 where
  pub least : 1 ≤ order
  pub most : order ≤ 32
  pub some : 1 ≤ count
  pub few : count ≤ 16

-- "each of size 1 to N"; request K8: algebras, "one a job"
pub record ListFits (J : Jobs) : Type 0 where
  pub ranged : Ranged J.order (count J)
  pub algebras_fit : length J.algebras ≡ count J
  pub sizes_fit : (q : ℕ) → q < count J → (1 ≤ size J q) × (size J q ≤ J.order)

-- The same with numbers that name algebras, and as many weights as the jobs have words, each a word of its job's algebra: what Start tests
-- of a list.
pub record ListAccepted (J : Jobs) : Type 0 where
  pub fits : ListFits J
  pub numbers : (q : ℕ) → q < length J.algebras → get_or J.algebras q 0 ≤ 2
  pub weights_fit : length J.weights ≡ words_of J.sizes
  pub words : (q p : ℕ) → Word (algebra J q) (get_or (job_weights J q) p 0)

-- Few sizes, each within the largest order: so their words are few too.
pub record Small (sizes : List ℕ) : Type 0 where
  pub few : length sizes ≤ 16
  pub small : (q : ℕ) → q < length sizes → get_or sizes q 0 ≤ 32
