-- A state that test 10 takes, and what an accepted run tells of it.
use Prim.Native.Nat.{ℕ, zero, suc, ◌+◌, ◌-◌, ◌≤◌, min}
use native.Mathlib.Omega.{arith}
use mathlib.Core.Path.{◌≡◌, refl}
use mathlib.Core.List.{List, ◌∷◌}
use mathlib.Core.Bool.{false}
use lib.ListN.{length}
use lib.Dec.{eqb-suc-zero}
use borrow.Author.Tests.{ltb-false}
use Rattle.refusals.proofs.First.{none_applied, first_most, none_of, inside, equal}
use Rattle.job_list.specs.Fits.{Ranged}
use Rattle.systolic.specs.State.{order_of, second_of, count_of, tick_of, state_length, total}
use Rattle.systolic.specs.Run.{Ran, bad_tests, bad_state, run_table, run_tests, ran_on, refused_run, ran}
use Rattle.systolic.proofs.Refusals.{number_at}

pub record StateFits (state : List ℕ) : Type 0 where
  pub long : 4 ≤ length state
  pub ranged : Ranged (order_of state) (count_of state)
  pub second : second_of state ≡ 0
  pub length_fits : length state ≡ state_length (order_of state)
  pub within : tick_of state ≤ total (order_of state) (count_of state)

pub state_fits : (state : List ℕ) → bad_state state ≡ false → StateFits state
state_fits state good =
    let (short, (order, (second, (count, (long, (late, end)))))) = none_of (bad_tests state) good in
    let (least, most) = inside order in
    let (some, few) = inside count in
    record {
      long = ltb-false (length state) 4 short;
      ranged = record { least = least; most = most; some = some; few = few };
      second = equal (second_of state) 0 second;
      length_fits = equal (length state) (state_length (order_of state)) long;
      within = ltb-false (total (order_of state) (count_of state)) (tick_of state) late;
    }

-- An accepted run leaves the order and the count, and brings the tick on by the ticks made, never past the total.
pub record RunAccepted (state : List ℕ) (after : Ran) : Type 0 where
  pub order : order_of after.state ≡ order_of state
  pub count : count_of after.state ≡ count_of state
  pub tick : tick_of after.state ≡ tick_of state + after.made
  pub long : 4 ≤ length after.state
  pub ranged : Ranged (order_of state) (count_of state)
  pub within : tick_of state + after.made ≤ total (order_of state) (count_of state)

-- the ticks made are never past the total
pub made_within : (whole allowance : ℕ) {tick : ℕ} → tick ≤ whole → tick + min allowance (whole - tick) ≤ whole
made_within whole allowance h = omega arith

module _ (state algebras sizes weights : List ℕ) (allowance : ℕ) (scratch results : List ℕ) where
  on_accepted : bad_state state ≡ false → RunAccepted state (ran_on state algebras sizes weights allowance scratch results)
  unfolding ran_on
  on_accepted good =
      let fits = state_fits state good in
      record {
        order = refl;
        count = refl;
        tick = refl;
        long = omega arith;
        ranged = fits.ranged;
        within = made_within (total (order_of state) (count_of state)) allowance fits.within;
      }

  by_number : (k : ℕ) → run_tests state algebras sizes weights scratch results ≡ k
      → (ran state algebras sizes weights allowance scratch results).number ≡ 0
      → RunAccepted state (ran state algebras sizes weights allowance scratch results)
  unfolding ran refused_run
  by_number zero is e =
      let good =
      (none_applied ((bad_state state, 10) ∷ run_table (order_of state) (count_of state) algebras sizes weights scratch results) refl is).0 in
      rw is (on_accepted good)
  by_number (suc k) is e = absurd (let z : suc k ≡ 0 = rw (is, eqb-suc-zero k) at e in omega arith)

  pub accepted_run_lem : (ran state algebras sizes weights allowance scratch results).number ≡ 0
      → RunAccepted state (ran state algebras sizes weights allowance scratch results)
  accepted_run_lem e = by_number (run_tests state algebras sizes weights scratch results) refl e

  -- 12 is the largest number among Run's tests.
  pub number_most : (ran state algebras sizes weights allowance scratch results).number ≤ 12
  number_most =
      rw (number_at state algebras sizes weights allowance scratch results _ refl)
      (first_most 12 ((bad_state state, 10) ∷ run_table (order_of state) (count_of state) algebras sizes weights scratch results) refl)
