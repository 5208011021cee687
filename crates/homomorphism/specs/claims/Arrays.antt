-- Request K6: "array results of two such jobs at each entry whose tick by demand 3 is past for both".
use Rattle.std.specs.Prelude.{ℕ, suc, ◌-◌, ◌*◌, ◌<◌, ◌≡◌, List, [], ◌∷◌, cond, ltb, length, get_or, replicate}
use Rattle.memory.specs.Lists.{list_of}
use Rattle.semiring.specs.declared.Algebra.TheVariants.{Reach}
use Rattle.semiring.specs.Named.{number_of}
use Rattle.job_list.specs.Jobs.{Jobs, count, size, algebra, job_weights, jobs_of}
use Rattle.systolic.specs.Start.{start_tests}
use Rattle.systolic.specs.claims.Demand.{Call}
use Rattle.systolic.specs.claims.Corollaries.{Past, word_at, started_runs}
use Rattle.homomorphism.specs.Support.{support}
use Rattle.homomorphism.specs.claims.Agreement.{Agree, SameLinks}

-- Job q of a list, which is in reach, and job q' of a list, which is in any algebra, of equal size and with the same links. All else may
-- differ: the arrays' orders, the jobs' places and the jobs beside them, the states lent to Start, the runs, the results before them and the
-- ticks made.
abbrev pub AgreementArray : Type 0
AgreementArray =
    (order order' : ℕ) (algebras sizes weights state algebras' sizes' weights' state' : List ℕ)
    → start_tests algebras order sizes weights state ≡ 0
    → start_tests algebras' order' sizes' weights' state' ≡ 0
    → (calls calls' : List Call) (results results' : List ℕ)
    → (let J = jobs_of algebras order sizes weights in
    let J' = jobs_of algebras' order' sizes' weights' in
    let after = started_runs algebras order sizes weights state calls results in
    let after' = started_runs algebras' order' sizes' weights' state' calls' results' in
    (q q' : ℕ) → algebra J q ≡ Reach
    → size J q ≡ size J' q' → SameLinks (algebra J' q') (size J q) (job_weights J q) (job_weights J' q')
    → (i k : ℕ) → Past J q i k after → Past J' q' i k after'
    → Agree (algebra J' q') (word_at J q i k after) (word_at J' q' i k after'))

-- Request K8: "A hall now sends its reach and distance jobs in one list." So jobs p, which is in reach, and q of one list, at any places of it and
-- with any jobs between them, in one list of runs.
abbrev pub AgreementList : Type 0
AgreementList =
    (algebras : List ℕ) (order : ℕ) (sizes weights state : List ℕ)
    → start_tests algebras order sizes weights state ≡ 0
    → (calls : List Call) (results : List ℕ)
    → (let J = jobs_of algebras order sizes weights in
    let after = started_runs algebras order sizes weights state calls results in
    (p q : ℕ) → algebra J p ≡ Reach
    → size J p ≡ size J q → SameLinks (algebra J q) (size J p) (job_weights J p) (job_weights J q)
    → (i k : ℕ) → Past J p i k after → Past J q i k after
    → Agree (algebra J q) (word_at J p i k after) (word_at J q i k after))

-- The number of the job that word p of a list's weights belongs to.
unfoldable pub job_of_word : List ℕ → ℕ → ℕ
job_of_word [] p = 0
job_of_word (n ∷ sizes) p = cond (ltb p (n * n)) 0 (suc (job_of_word sizes (p - n * n)))

-- The support of a list's words, each by its job's algebra.
abbrev pub supports : Jobs → List ℕ
supports J = list_of (length J.weights) (λ p. support (algebra J (job_of_word J.sizes p)) (get_or J.weights p 0))

-- Every list that Start accepts has a list in reach with the same links, job by job, which it accepts too: the support of its words.
abbrev pub SameJobsFound : Type 0
SameJobsFound =
    (algebras : List ℕ) (order : ℕ) (sizes weights state : List ℕ) → start_tests algebras order sizes weights state ≡ 0
    → (let J' = jobs_of algebras order sizes weights in
    let reach = replicate (length sizes) (number_of Reach) in
    let J = jobs_of reach order sizes (supports J') in
    (start_tests reach order sizes (supports J') state ≡ 0)
    × ((q : ℕ) → q < count J → SameLinks (algebra J' q) (size J q) (job_weights J q) (job_weights J' q)))
