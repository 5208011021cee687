-- What demand 3 gives together with demand 2, and what of a list of runs one job's results depend on.
use Rattle.std.specs.Prelude.{ℕ, ◌+◌, ◌-◌, ◌*◌, ◌<◌, ◌≡◌, List, length, get_or}
use Rattle.closure.specs.Elimination.{eliminated}
use Rattle.closure.specs.claims.Demand.{Best}
use Rattle.job_list.specs.Jobs.{Jobs, count, size, algebra, words_of, part_of, job_weights, place, jobs_of}
use Rattle.systolic.specs.Start.{start_tests, state_after_start}
use Rattle.systolic.specs.claims.Demand.{Call, Runs, runs}
use Rattle.systolic.specs.Tick.{leaves}

-- Entry (i, k) of job q, whose tick is past after a list of runs.
pub record Past (J : Jobs) (q i k : ℕ) (after : Runs) : Type 0 where
  pub job : q < count J
  pub row : i < size J q
  pub column : k < size J q
  pub tick : leaves J q i k < after.made

-- It is past wherever demand 3 says so, "if more than 4Nq + 4N - 1 + i + k ticks are made".
abbrev pub PastIs : Type 0
PastIs =
    (J : Jobs) (q i k : ℕ) (after : Runs) → q < count J → i < size J q → k < size J q
    → 4 * J.order * q + 4 * J.order - 1 + i + k < after.made → Past J q i k after

-- The word of that entry.
abbrev pub word_at : Jobs → ℕ → ℕ → ℕ → Runs → ℕ
word_at J q i k after = get_or after.results (place J q i k) 0

-- A list of runs from what start left in a state that was lent to it.
abbrev pub started_runs : List ℕ → ℕ → List ℕ → List ℕ → List ℕ → List Call → List ℕ → Runs
started_runs algebras order sizes weights state calls results =
    runs algebras sizes weights calls (state_after_start algebras order sizes weights state) results

-- Demands 2 and 3 joined: an entry whose tick is past is attained by a way of its job without a repeated point, and no way of its job
-- betters it.
abbrev pub Demand3Best : Type 0
Demand3Best =
    (algebras : List ℕ) (order : ℕ) (sizes weights state : List ℕ)
    → start_tests algebras order sizes weights state ≡ 0
    → (calls : List Call) (results : List ℕ) → length results ≡ words_of sizes
    → (let J = jobs_of algebras order sizes weights in
    let after = started_runs algebras order sizes weights state calls results in
    (q i k : ℕ) → Past J q i k after → Best (algebra J q) (size J q) (job_weights J q) i k (word_at J q i k after))

-- "One job's results depend on N, the algebra and its own words; the other jobs only set its place.": a job of two lists, in which
-- it has the same algebra, size and words.
abbrev pub OwnWordsOnly : Type 0
OwnWordsOnly =
    (order : ℕ) (algebras sizes weights state algebras' sizes' weights' state' : List ℕ)
    → start_tests algebras order sizes weights state ≡ 0
    → start_tests algebras' order sizes' weights' state' ≡ 0
    → (calls calls' : List Call) (results results' : List ℕ)
    → length results ≡ words_of sizes → length results' ≡ words_of sizes'
    → (let J = jobs_of algebras order sizes weights in
    let J' = jobs_of algebras' order sizes' weights' in
    let after = started_runs algebras order sizes weights state calls results in
    let after' = started_runs algebras' order sizes' weights' state' calls' results' in
    (q q' : ℕ) → algebra J q ≡ algebra J' q' → size J q ≡ size J' q' → job_weights J q ≡ job_weights J' q'
    → (i k : ℕ) → Past J q i k after → Past J' q' i k after'
    → word_at J q i k after ≡ word_at J' q' i k after')

-- Once the last entry of a job has left, "its results are the same part of the results" as its weights are of the weights: the elimination's
-- own words, row by row.
abbrev pub JobClosed : Type 0
JobClosed =
    (algebras : List ℕ) (order : ℕ) (sizes weights state : List ℕ)
    → start_tests algebras order sizes weights state ≡ 0
    → (calls : List Call) (results : List ℕ) → length results ≡ words_of sizes
    → (let J = jobs_of algebras order sizes weights in
    let after = started_runs algebras order sizes weights state calls results in
    (q : ℕ) → q < count J → 4 * order * q + 4 * order - 1 + 2 * (size J q - 1) < after.made
    → part_of sizes after.results q ≡ eliminated (algebra J q) (size J q) (job_weights J q))
