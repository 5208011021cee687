-- Document 01: Start, its tests and the state after it.
use Rattle.std.specs.Prelude.{ℕ, ◌*◌, List, [], ◌∷◌, Bool, cond, not, ◌||◌, length, replicate, eqb}
use Rattle.refusals.specs.Tests.{first, outside}
use Rattle.systolic.specs.Cell.{Planes}
use Rattle.job_list.specs.Jobs.{words_of}
use Rattle.job_list.specs.Fits.{any_unknown, any_outside, job_above}
use Rattle.systolic.specs.State.{state_words, state_length}

-- "1; 6 order; 7 sizes not 1 to 16 many; 8 a job's size outside 1 to N; 3 weights not the sum of n²; 9 state not 4 + 3N² words; 5".
-- Request K8: "Test 1 looks at every algebra lent, in Start where it was", and a list of algebras that is not as long as the sizes "gives 7,
-- at 7's place".
abbrev pub start_table : List ℕ → ℕ → List ℕ → List ℕ → List ℕ → List (Bool × ℕ)
start_table algebras order sizes weights state =
    (any_unknown algebras, 1)
    ∷ (outside 1 32 order, 6)
    ∷ (outside 1 16 (length sizes) || not (eqb (length algebras) (length sizes)), 7)
    ∷ (any_outside order sizes, 8)
    ∷ (not (eqb (length weights) (words_of sizes)), 3)
    ∷ (not (eqb (length state) (state_length order)), 9)
    ∷ (job_above algebras sizes weights, 5)
    ∷ []

abbrev pub start_tests : List ℕ → ℕ → List ℕ → List ℕ → List ℕ → ℕ
start_tests algebras order sizes weights state = first 0 (start_table algebras order sizes weights state)

-- "planes 0"
abbrev pub zero_planes : ℕ → Planes
zero_planes order = let zeros : List ℕ = replicate (order * order) 0 in record { c = zeros; a = zeros; b = zeros }

-- "Start writes the four words, tick 0, planes 0."
abbrev pub started : ℕ → List ℕ → List ℕ
started order sizes = state_words order (length sizes) 0 (zero_planes order)

-- The state after a call of Start.
abbrev pub state_after_start : List ℕ → ℕ → List ℕ → List ℕ → List ℕ → List ℕ
state_after_start algebras order sizes weights state =
    cond (eqb (start_tests algebras order sizes weights state) 0) (started order sizes) state
