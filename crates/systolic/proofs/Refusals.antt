-- The tables of tests of Start and Run, read both ways.
use Prim.Native.Nat.{ℕ, zero, suc, ◌<◌}
use mathlib.Core.Path.{◌≡◌, refl}
use mathlib.Core.Logic.{◌⊎◌, inl, inr}
use mathlib.Core.List.{List}
use lib.ListN.{length}
use lib.Dec.{ltb, eqb-suc-zero}
use borrow.Author.Tests.{ne_eqb}
use Rattle.memory.specs.Lists.{any}
use Rattle.refusals.specs.Tests.{outside}
use Rattle.refusals.specs.Conditions.{Exactly, Outside, Some, Words16}
use Rattle.refusals.proofs.Conditions.{Decides, row, none, decides_outside, decides_differ, decides_above, decides_any, either, decides_never}
use Rattle.job_list.specs.Jobs.{words_of}
use Rattle.job_list.specs.Fits.{any_unknown}
use Rattle.job_list.proofs.Conditions.{decides_above_job}
use Rattle.systolic.specs.State.{order_of, second_of, count_of, tick_of, total, state_length, scratch_length}
use Rattle.systolic.specs.Start.{start_tests}
use Rattle.systolic.specs.Run.{bad_state, run_tests, ran_on, refused_run, ran}
use Rattle.systolic.specs.claims.Refusals.{SomeUnknown, start_conditions, StartRefusals, Unfit, too_short, order_outside, second_not_zero, jobs_outside, other_length}
use Rattle.systolic.specs.claims.Refusals.{tick_above, run_conditions, RunRefusals, StartKept, RunKept, RunKeptClaim}

decides_sizes : (order : ℕ) (sizes : List ℕ) → Decides (any (outside 1 order) sizes) (Some (Outside 1 order) sizes)
decides_sizes order = decides_any (outside 1 order) (Outside 1 order) (decides_outside 1 order)

decides_unknown : (algebras : List ℕ) → Decides (any_unknown algebras) (SomeUnknown algebras)
decides_unknown = decides_any (ltb 2) (λ (algebra : ℕ). 2 < algebra) (decides_above 2)

pub start_refusals : StartRefusals
unfolding start_conditions
start_refusals algebras order sizes weights state h =
    row (decides_unknown algebras)
    (row (decides_outside 1 32 order)
    (row (either (decides_outside 1 16 (length sizes)) (decides_differ (length algebras) (length sizes)))
    (row (decides_sizes order sizes)
    (row (decides_differ (length weights) (words_of sizes))
    (row (decides_differ (length state) (state_length order))
    (row (decides_above_job algebras sizes weights h)
    none))))))

-- A state is unfit where one of the tests says so.
module _ (state : List ℕ) where
  abbrev Faults : Type 0
  Faults =
      (length state < 4)
      ⊎ (Outside 1 32 (order_of state)
      ⊎ ((second_of state ≡ 0 → ⊥)
      ⊎ (Outside 1 16 (count_of state)
      ⊎ ((length state ≡ state_length (order_of state) → ⊥)
      ⊎ ((total (order_of state) (count_of state) < tick_of state)
      ⊎ ⊥)))))

  faults : Decides (bad_state state) Faults
  faults =
      either (decides_above (length state) 4)
      (either (decides_outside 1 32 (order_of state))
      (either (decides_differ (second_of state) 0)
      (either (decides_outside 1 16 (count_of state))
      (either (decides_differ (length state) (state_length (order_of state)))
      (either (decides_above (total (order_of state) (count_of state)) (tick_of state))
      decides_never)))))

  unfit : Faults → Unfit state
  unfit (inl h) = too_short h
  unfit (inr (inl h)) = order_outside h
  unfit (inr (inr (inl h))) = second_not_zero h
  unfit (inr (inr (inr (inl h)))) = jobs_outside h
  unfit (inr (inr (inr (inr (inl h))))) = other_length h
  unfit (inr (inr (inr (inr (inr (inl h)))))) = tick_above h
  unfit (inr (inr (inr (inr (inr (inr h)))))) = absurd h

  fault : Unfit state → Faults
  fault (too_short h) = inl h
  fault (order_outside h) = inr (inl h)
  fault (second_not_zero h) = inr (inr (inl h))
  fault (jobs_outside h) = inr (inr (inr (inl h)))
  fault (other_length h) = inr (inr (inr (inr (inl h))))
  fault (tick_above h) = inr (inr (inr (inr (inr (inl h)))))

  decides_unfit : Decides (bad_state state) (Unfit state)
  decides_unfit = record { yes = λ e. unfit (faults.yes e); no = λ e u. faults.no e (fault u) }

run_tests_lem : (state algebras sizes weights scratch results : List ℕ) → Words16 weights
    → Exactly (run_conditions state algebras sizes weights scratch results) (run_tests state algebras sizes weights scratch results)
unfolding run_conditions
run_tests_lem state algebras sizes weights scratch results h =
    row (decides_unfit state)
    (row (either (decides_differ (length sizes) (count_of state)) (decides_differ (length algebras) (count_of state)))
    (row (decides_unknown algebras)
    (row (decides_sizes (order_of state) sizes)
    (row (decides_differ (length weights) (words_of sizes))
    (row (decides_differ (length scratch) (scratch_length (order_of state)))
    (row (decides_differ (length results) (words_of sizes))
    (row (decides_above_job algebras sizes weights h)
    none)))))))

-- The number that a run answers is that of its tests, and a refused one leaves what it was lent.
module _ (state algebras sizes weights : List ℕ) (allowance : ℕ) (scratch results : List ℕ) where
  pub number_at : (number : ℕ) → run_tests state algebras sizes weights scratch results ≡ number
      → (ran state algebras sizes weights allowance scratch results).number ≡ number
  unfolding ran ran_on refused_run
  number_at zero e = rw e
  number_at (suc number) e = rw (e, eqb-suc-zero number)

  kept_at : (number : ℕ) → run_tests state algebras sizes weights scratch results ≡ suc number
      → RunKept state scratch results (ran state algebras sizes weights allowance scratch results)
  unfolding ran refused_run
  kept_at number e =
      rw (e, eqb-suc-zero number) (record { none_made = refl; state_kept = refl; scratch_kept = refl; results_kept = refl })

pub run_refusals : RunRefusals
run_refusals state algebras sizes weights allowance scratch results h =
    rw (number_at state algebras sizes weights allowance scratch results _ refl) (run_tests_lem state algebras sizes weights scratch results h)

-- where the tests' number is not 0
pub run_kept : RunKeptClaim
run_kept state algebras sizes weights allowance scratch results refused =
    go (run_tests state algebras sizes weights scratch results) refl
  where
    go : (number : ℕ) → run_tests state algebras sizes weights scratch results ≡ number
        → RunKept state scratch results (ran state algebras sizes weights allowance scratch results)
    go zero e = absurd (refused (number_at state algebras sizes weights allowance scratch results zero e))
    go (suc number) e = kept_at state algebras sizes weights allowance scratch results number e

pub start_kept : StartKept
start_kept algebras order sizes weights state refused =
    rw (ne_eqb (start_tests algebras order sizes weights state) 0 refused)
