-- Document 01: Run, its tests, the ticks that it makes, and state, results and scratch after it.
use Rattle.std.specs.Prelude.{ℕ, ◌+◌, ◌-◌, min, List, [], ◌∷◌, Bool, cond, not, ◌||◌, length, replicate, eqb, ltb}
use Rattle.refusals.specs.Tests.{first, one_of, outside}
use Rattle.job_list.specs.Jobs.{jobs_of, words_of}
use Rattle.systolic.specs.Tick.{ticks}
use Rattle.systolic.specs.State.{state_words, order_of, second_of, count_of, tick_of, planes_of, state_length, scratch_length, total}
use Rattle.job_list.specs.Fits.{any_unknown, any_outside, job_above}

-- "10 state shorter than 4, its N, algebra or Q out of range, its length wrong, or tick above the total"; request K8: its second word
-- "must be 0"
abbrev pub bad_tests : List ℕ → List Bool
bad_tests state =
    ltb (length state) 4
    ∷ outside 1 32 (order_of state)
    ∷ not (eqb (second_of state) 0)
    ∷ outside 1 16 (count_of state)
    ∷ not (eqb (length state) (state_length (order_of state)))
    ∷ ltb (total (order_of state) (count_of state)) (tick_of state)
    ∷ []

abbrev pub bad_state : List ℕ → Bool
bad_state state = one_of (bad_tests state)

-- "10 ..; 11 sizes not Q many; 8; 3; 12 scratch length; 4 results not the sum of n²; 5": of the order and the count in the state. Request
-- K8: test 1 "right after 11, where a list of algebras that is not Q long also gives 11"
abbrev pub run_table : ℕ → ℕ → List ℕ → List ℕ → List ℕ → List ℕ → List ℕ → List (Bool × ℕ)
run_table order count algebras sizes weights scratch results =
    (not (eqb (length sizes) count) || not (eqb (length algebras) count), 11)
    ∷ (any_unknown algebras, 1)
    ∷ (any_outside order sizes, 8)
    ∷ (not (eqb (length weights) (words_of sizes)), 3)
    ∷ (not (eqb (length scratch) (scratch_length order)), 12)
    ∷ (not (eqb (length results) (words_of sizes)), 4)
    ∷ (job_above algebras sizes weights, 5)
    ∷ []

abbrev pub run_tests : List ℕ → List ℕ → List ℕ → List ℕ → List ℕ → List ℕ → ℕ
run_tests state algebras sizes weights scratch results =
    first 0 ((bad_state state, 10) ∷ run_table (order_of state) (count_of state) algebras sizes weights scratch results)

-- "the smaller of its allowance and the ticks left"
abbrev pub ticks_made : List ℕ → ℕ → ℕ
ticks_made state allowance = min allowance (total (order_of state) (count_of state) - tick_of state)

-- What a call of Run answers and leaves: the refusal's number (0 for none), the ticks made, and every lent word.
pub record Ran : Type 0 where
  pub number : ℕ
  pub made : ℕ
  pub state : List ℕ
  pub results : List ℕ
  pub scratch : List ℕ

-- The accepted run: "Scratch .. is left zero by every accepted run."
unfoldable pub ran_on : List ℕ → List ℕ → List ℕ → List ℕ → ℕ → List ℕ → List ℕ → Ran
ran_on state algebras sizes weights allowance scratch results =
    let J = jobs_of algebras (order_of state) sizes weights in
    let made = ticks_made state allowance in
    let m = ticks J (tick_of state) made (record { planes = planes_of state; results = results }) in
    record {
      number = 0;
      made = made;
      state = state_words (order_of state) (count_of state) (tick_of state + made) m.planes;
      results = m.results;
      scratch = replicate (length scratch) 0;
    }

-- "Memory stays as it was" at a refusal.
unfoldable pub refused_run : ℕ → List ℕ → List ℕ → List ℕ → Ran
refused_run number state scratch results =
    record { number = number; made = 0; state = state; results = results; scratch = scratch }

-- A call of Run.
unfoldable pub ran : List ℕ → List ℕ → List ℕ → List ℕ → ℕ → List ℕ → List ℕ → Ran
ran state algebras sizes weights allowance scratch results =
    let number = run_tests state algebras sizes weights scratch results in
    cond (eqb number 0)
    (ran_on state algebras sizes weights allowance scratch results)
    (refused_run number state scratch results)
