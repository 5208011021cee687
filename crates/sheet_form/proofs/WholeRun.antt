-- The whole run of an accepted list: it is started, makes every tick and is never refused.
use Prim.Native.Nat.{ℕ, ◌+◌, ◌-◌, min, zero-le}
use native.Mathlib.Omega.{arith}
use mathlib.Core.Path.{◌≡◌, sym, ap, ◌∙◌}
use mathlib.Core.List.{List}
use lib.ListN.{length, replicate, length-replicate}
use borrow.Author.Tests.{eq-eqb}
use Rattle.job_list.specs.Fits.{ListAccepted}
use Rattle.job_list.specs.Jobs.{words_of, jobs_of}
use Rattle.systolic.specs.Tick.{ticks}
use Rattle.systolic.specs.State.{state_length, scratch_length, total}
use Rattle.systolic.specs.Start.{start_tests, started, zero_planes, state_after_start}
use Rattle.systolic.specs.Run.{Ran, ran}
use Rattle.systolic.proofs.Totals.{total_most}
use Rattle.systolic.proofs.Demand.{zero-sized}
use Rattle.systolic.proofs.Started.{starts}
use Rattle.systolic.proofs.Runs.{accepted_run, run_accepted}
use Rattle.sheet_form.specs.Sheet.{started_state, whole_run}

module _ {algebras : List ℕ} {order : ℕ} {sizes weights : List ℕ} (list : ListAccepted (jobs_of algebras order sizes weights)) where
  -- No test of start applies, so it leaves a started state.
  pub start_leaves : (state : List ℕ) → length state ≡ state_length order
      → state_after_start algebras order sizes weights state ≡ started order sizes
  start_leaves state fits = rw (starts list state fits)

  -- the same of a state of zeros, from which the sheet's definition starts
  pub begun_tests : start_tests algebras order sizes weights (replicate (state_length order) 0) ≡ 0
  begun_tests = starts list (replicate (state_length order) 0) (length-replicate {A = ℕ} (state_length order) 0)

  pub begun_leaves : started_state algebras order sizes weights ≡ started order sizes
  begun_leaves = start_leaves (replicate (state_length order) 0) (length-replicate {A = ℕ} (state_length order) 0)

  -- the run of a started list, whatever its scratch holds
  one_run : (scratch results : List ℕ) → length scratch ≡ scratch_length order → length results ≡ words_of sizes
      → ran (started_state algebras order sizes weights) algebras sizes weights 65535 scratch results
      ≡ (let made = min 65535 (total order (length sizes) - 0) in
      accepted_run order (length sizes) (0 + made) made scratch
      (ticks (jobs_of algebras order sizes weights) 0 made (record { planes = zero_planes order; results = results })))
  one_run scratch results fits fits' =
      rw begun_leaves
      (run_accepted list 0 (zero_planes order) (zero-sized order) zero-le 65535 scratch results
      (rw (eq-eqb (length scratch) (scratch_length order) fits, eq-eqb (length results) (words_of sizes) fits')))

  -- it makes every tick of the list
  pub whole_made : (whole_run algebras order sizes weights).made ≡ total order (length sizes)
  whole_made =
      ap (λ (r : Ran). r.made)
      (one_run (replicate (scratch_length order) 0) (replicate (words_of sizes) 0) (length-replicate {A = ℕ} (scratch_length order) 0)
      (length-replicate {A = ℕ} (words_of sizes) 0))
      ∙ omega (arith, total_most list.fits.ranged.most list.fits.ranged.few)

  -- It is accepted, and leaves what the whole run leaves.
  pub run_whole : {state results : List ℕ} (scratch : List ℕ) → state ≡ started_state algebras order sizes weights → length scratch ≡ scratch_length order
      → results ≡ replicate (words_of sizes) 0
      → ((ran state algebras sizes weights 65535 scratch results).number ≡ 0)
      × ((ran state algebras sizes weights 65535 scratch results).made ≡ (whole_run algebras order sizes weights).made)
      × ((ran state algebras sizes weights 65535 scratch results).results ≡ (whole_run algebras order sizes weights).results)
  run_whole {state} {results} scratch is_state fits zeros =
      let long : length (replicate {A = ℕ} (words_of sizes) 0) ≡ words_of sizes = length-replicate {A = ℕ} (words_of sizes) 0 in
      let here = one_run scratch (replicate (words_of sizes) 0) fits long in
      let whole = one_run (replicate (scratch_length order) 0) (replicate (words_of sizes) 0) (length-replicate {A = ℕ} (scratch_length order) 0) long in
      rw (is_state, zeros) (
        ap (λ (r : Ran). r.number) here,
        ap (λ (r : Ran). r.made) here ∙ sym (ap (λ (r : Ran). r.made) whole),
        ap (λ (r : Ran). r.results) here ∙ sym (ap (λ (r : Ran). r.results) whole),
      )
