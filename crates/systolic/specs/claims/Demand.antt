-- Demand 3, one claim over any list of runs of an array of order N started on Q jobs.
use Rattle.std.specs.Prelude.{ℕ, ◌+◌, ◌-◌, ◌*◌, ◌<◌, min, ◌≡◌, List, [], ◌∷◌, map, cond, not, length, get_or, replicate, eqb, ltb}
use Rattle.semiring.specs.Named.{named_of}
use Rattle.closure.specs.Elimination.{closure}
use Rattle.refusals.specs.Tests.{first}
use Rattle.job_list.specs.Jobs.{Jobs, jobs_of, count, size, algebra, words_of, job_weights, place}
use Rattle.systolic.specs.Tick.{leaves, ticks}
use Rattle.systolic.specs.State.{state_words, order_of, count_of, tick_of, planes_of, scratch_length}
use Rattle.systolic.specs.Start.{start_tests, state_after_start}
use Rattle.systolic.specs.Run.{ran}
use Rattle.std.specs.Prelude.{Some as Known}

-- "allowance, scratch length and scratch words are each run's own"
pub record Call : Type 0 where
  pub allowance : ℕ
  pub scratch : List ℕ

-- What a list of runs answers and leaves.
pub record Runs : Type 0 where
  -- the refusal's number of each run, 0 for an accepted one
  pub numbers : List ℕ
  -- "the accepted allowances are those of the other runs": their sum
  pub allowed : ℕ
  -- "The ticks made are the sum of what the accepted runs returned"
  pub made : ℕ
  pub state : List ℕ
  pub results : List ℕ
  -- what the scratch of each run holds after it
  pub scratches : List (List ℕ)

-- "Every run in it is lent the very jobs that Start accepted, and state and results as the run before left them"
unfoldable pub runs : List ℕ → List ℕ → List ℕ → List Call → List ℕ → List ℕ → Runs
runs algebras sizes weights [] state results =
    record { numbers = []; allowed = 0; made = 0; state = state; results = results; scratches = [] }
runs algebras sizes weights (call ∷ calls) state results =
    let one = ran state algebras sizes weights call.allowance call.scratch results in
    let rest = runs algebras sizes weights calls one.state one.results in
    record {
      numbers = one.number ∷ rest.numbers;
      allowed = cond (eqb one.number 0) call.allowance 0 + rest.allowed;
      made = one.made + rest.made;
      state = rest.state;
      results = rest.results;
      scratches = one.scratch ∷ rest.scratches;
    }

-- The number of a run of such a list: only the scratch and the results can be unfit.
abbrev pub number_due : ℕ → List ℕ → List ℕ → List ℕ → ℕ
number_due order sizes scratch results =
    first 0 ((not (eqb (length scratch) (scratch_length order)), 12) ∷ (not (eqb (length results) (words_of sizes)), 4) ∷ [])

-- "Scratch .. is left zero by every accepted run"; a refused one leaves it as it was.
abbrev pub scratch_due : ℕ → List ℕ → List ℕ → List ℕ → List ℕ
scratch_due order sizes scratch results =
    cond (eqb (number_due order sizes scratch results) 0) (replicate (length scratch) 0) scratch

-- The claim about one list of runs from `begun`, the state that an accepted start left, and results that hold any words: `after` is what
-- it leaves.
pub record Claim (J : Jobs) (begun : List ℕ) (calls : List Call) (results : List ℕ) (after : Runs) : Type 0 where
  -- "A run is refused exactly where the table of tests says so"
  pub refusals : after.numbers ≡ map (λ (call : Call). number_due J.order J.sizes call.scratch results) calls
  -- "ticks made = min(sum of accepted allowances, 4NQ + 2N - 2)"; "the state's tick equals that sum"
  pub made : after.made ≡ min after.allowed (4 * J.order * count J + 2 * J.order - 2)
  pub tick : tick_of after.state ≡ after.made
  -- "the planes are that many ticks of document 01's cell rule from what start left", and the other words are start's
  pub state :
      after.state
      ≡ state_words (order_of begun) (count_of begun) after.made
      (ticks J 0 after.made (record { planes = planes_of begun; results = results })).planes
  -- "Scratch .. is left zero by every accepted run", and a refused one leaves it as it was
  pub scratches : after.scratches ≡ map (λ (call : Call). scratch_due J.order J.sizes call.scratch results) calls
  -- "entry (i,k) of job q is that job's elimination word if more than 4Nq + 4N - 1 + i + k ticks are made, else the word it
  -- held before the list"; request K8: "each job closed in its own algebra"
  pub entry :
      length results ≡ words_of J.sizes
      → (q i k : ℕ) → q < count J → i < size J q → k < size J q
      → get_or after.results (place J q i k) 0
      ≡ cond (ltb (leaves J q i k) after.made)
      (closure (algebra J q) (size J q) (job_weights J q) i k)
      (get_or results (place J q i k) 0)
  -- no other word: each of the results' words is an entry of a job, and there are no more words than before
  pub length_kept : length after.results ≡ length results
  pub all_entries :
      length results ≡ words_of J.sizes
      → (p : ℕ) → p < length results
      → (q : ℕ) × (i : ℕ) × (k : ℕ) × (q < count J) × (i < size J q) × (k < size J q) × (p ≡ place J q i k)
  -- "Where the length of the results doesn't fit the jobs, every run is refused and no word changes."
  pub unfit :
      (length results ≡ words_of J.sizes → ⊥)
      → (after.made ≡ 0) × (after.state ≡ begun) × (after.results ≡ results)
      × (after.scratches ≡ map (λ (call : Call). call.scratch) calls)

-- Request K8: "goes with each job". The number lent for each job names its algebra.
abbrev pub NamedJobs : Jobs → Type 0
NamedJobs J = (q : ℕ) → q < count J → named_of (get_or J.algebras q 0) ≡ Known (algebra J q)

-- Over all algebras together: a list may have jobs of each.
abbrev pub Demand3 : Type 0
Demand3 =
    (algebras : List ℕ) (order : ℕ) (sizes weights state : List ℕ)
    → start_tests algebras order sizes weights state ≡ 0
    → (let J = jobs_of algebras order sizes weights in
    NamedJobs J
    × ((calls : List Call) (results : List ℕ)
    → (let begun = state_after_start algebras order sizes weights state in
    Claim J begun calls results (runs algebras sizes weights calls begun results))))
