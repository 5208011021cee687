-- Document 01, "Where each call turns back", rows Start and Run, read both ways in the paper's own conditions.
use Rattle.std.specs.Prelude.{ℕ, ◌+◌, ◌-◌, ◌*◌, ◌<◌, ◌≡◌, ◌⊎◌, List, length, get_or}
use Rattle.refusals.specs.Conditions.{Conditions, otherwise, test, Exactly, Outside, Some, Words16}
use Rattle.semiring.specs.Words.{ReachAbove}
use Rattle.job_list.specs.Jobs.{words_of, part_of}
use Rattle.systolic.specs.State.{order_of, count_of, tick_of}
use Rattle.systolic.specs.Start.{start_tests, state_after_start}
use Rattle.systolic.specs.Run.{Ran, ran}

-- A number above 2 names no algebra.
abbrev pub SomeUnknown : List ℕ → Type 0
SomeUnknown = Some (λ algebra. 2 < algebra)

-- "a reach word above 1": in the part of a job whose algebra is reach
abbrev pub SomeJobAbove : List ℕ → List ℕ → List ℕ → Type 0
SomeJobAbove algebras sizes weights = (q : ℕ) × (q < length sizes) × ReachAbove (get_or algebras q 0) (part_of sizes weights q)

-- "1; 6 order; 7 sizes not 1 to 16 many; 8 a job's size outside 1 to N; 3 weights not the sum of n²; 9 state not 4 + 3N² words; 5".
-- Request K8: "Test 1 looks at every algebra lent, in Start where it was", and a list of algebras of another length "gives 7, at 7's place".
unfoldable pub start_conditions : List ℕ → ℕ → List ℕ → List ℕ → List ℕ → Conditions
start_conditions algebras order sizes weights state =
    test (SomeUnknown algebras) 1
    (test (Outside 1 32 order) 6
    (test (Outside 1 16 (length sizes) ⊎ (length algebras ≡ length sizes → ⊥)) 7
    (test (Some (Outside 1 order) sizes) 8
    (test (length weights ≡ words_of sizes → ⊥) 3
    (test (length state ≡ 4 + 3 * (order * order) → ⊥) 9
    (test (SomeJobAbove algebras sizes weights) 5
    otherwise))))))

abbrev pub StartRefusals : Type 0
StartRefusals =
    (algebras : List ℕ) (order : ℕ) (sizes weights state : List ℕ) → Words16 weights
    → Exactly (start_conditions algebras order sizes weights state) (start_tests algebras order sizes weights state)

-- "10 state shorter than 4, its N, algebra or Q out of range, its length wrong, or tick above the total"; request K8: "the state's second
-- word, which must be 0"
pub data Unfit (state : List ℕ) : Type 0 where
  too_short : length state < 4 → Unfit state
  order_outside : Outside 1 32 (order_of state) → Unfit state
  second_not_zero : (get_or state 1 0 ≡ 0 → ⊥) → Unfit state
  jobs_outside : Outside 1 16 (count_of state) → Unfit state
  other_length : (length state ≡ 4 + 3 * (order_of state * order_of state) → ⊥) → Unfit state
  tick_above : 4 * order_of state * count_of state + 2 * order_of state - 2 < tick_of state → Unfit state

-- "10 ..; 11 sizes not Q many; 8; 3; 12 scratch length; 4 results not the sum of n²; 5"; document 02, K5: "Test 12 looks for 2N words";
-- K8: test 1 "in Run right after 11, where a list of algebras that is not Q long also gives 11"
unfoldable pub run_conditions : List ℕ → List ℕ → List ℕ → List ℕ → List ℕ → List ℕ → Conditions
run_conditions state algebras sizes weights scratch results =
    test (Unfit state) 10
    (test ((length sizes ≡ count_of state → ⊥) ⊎ (length algebras ≡ count_of state → ⊥)) 11
    (test (SomeUnknown algebras) 1
    (test (Some (Outside 1 (order_of state)) sizes) 8
    (test (length weights ≡ words_of sizes → ⊥) 3
    (test (length scratch ≡ 2 * order_of state → ⊥) 12
    (test (length results ≡ words_of sizes → ⊥) 4
    (test (SomeJobAbove algebras sizes weights) 5
    otherwise)))))))

-- Of the number that a call of Run answers.
abbrev pub RunRefusals : Type 0
RunRefusals =
    (state algebras sizes weights : List ℕ) (allowance : ℕ) (scratch results : List ℕ) → Words16 weights
    → Exactly (run_conditions state algebras sizes weights scratch results)
    (ran state algebras sizes weights allowance scratch results).number

-- "Memory stays as it was" at a refusal.
abbrev pub StartKept : Type 0
StartKept =
    (algebras : List ℕ) (order : ℕ) (sizes weights state : List ℕ)
    → (start_tests algebras order sizes weights state ≡ 0 → ⊥)
    → state_after_start algebras order sizes weights state ≡ state

pub record RunKept (state scratch results : List ℕ) (after : Ran) : Type 0 where
  pub none_made : after.made ≡ 0
  pub state_kept : after.state ≡ state
  pub scratch_kept : after.scratch ≡ scratch
  pub results_kept : after.results ≡ results

abbrev pub RunKeptClaim : Type 0
RunKeptClaim =
    (state algebras sizes weights : List ℕ) (allowance : ℕ) (scratch results : List ℕ)
    → ((ran state algebras sizes weights allowance scratch results).number ≡ 0 → ⊥)
    → RunKept state scratch results (ran state algebras sizes weights allowance scratch results)
