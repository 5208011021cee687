-- Run, from what its tests found: over plain lists and numbers, what each place of its code asks.
use Prim.Native.Nat.{ℕ, ◌-◌, ◌≤◌, min}
use native.Mathlib.Omega.{arith}
use mathlib.Core.Path.{◌≡◌, sym, ap, ◌∙◌}
use mathlib.Core.List.{List}
use mathlib.Core.Bool.{false}
use lib.ListN.{length, replicate}
use Rattle.std.specs.Prelude.{Ok, Err}
use Rattle.refusals.specs.Reason.{reason_number}
use Rattle.refusals.specs.Tests.{first}
use Rattle.refusals.specs.declared.Reason.{Reason}
use Rattle.systolic.specs.State.{order_of, count_of, total, scratch_length}
use Rattle.job_list.specs.Jobs.{words_of}
use Rattle.job_list.specs.Fits.{any_outside, Small, Ranged}
use Rattle.job_list.specs.inner.Parts.{Parts}
use Rattle.systolic.specs.Run.{run_table, run_tests, ran}
use Rattle.job_list.proofs.Fits.{tested_small, sizes_fit}
use Rattle.state_header.specs.declared.Header.{Header}
use Rattle.state_header.specs.inner.Header.{Told}
use Rattle.array.specs.RunAnswer.{Answered}
use Rattle.state_ticks.specs.inner.Runnable.{Runnable, RunLeft}
use Rattle.systolic.proofs.Fit.{made_within}
use Rattle.array.proofs.Answers.{HeaderFits, header_fits, run_turned, run_accepted}

-- what was cleared is as long as it was lent
pub cleared : (used scratch : List ℕ) {scratch' : List ℕ} → scratch' ≡ replicate (length used) 0 → length used ≡ length scratch
    → scratch' ≡ replicate (length scratch) 0
cleared used scratch clears same = clears ∙ ap (λ (m : ℕ). replicate m 0) same

module _ {h : Header} {state : List ℕ} (read : Told (Ok h) state) where
  fit : HeaderFits h state
  fit = header_fits read

  pub ranged : Ranged h.order h.count
  ranged = fit.ranged

  pub within : h.tick ≤ total h.order h.count
  within = fit.within

  tested : (algebras sizes weights scratch results : List ℕ) {number : ℕ}
      → first 0 (run_table h.order h.count algebras sizes weights scratch results) ≡ number
      → run_tests state algebras sizes weights scratch results ≡ number
  tested algebras sizes weights scratch results found =
      let order : h.order ≡ order_of state = ap (λ (k : Header). k.order) fit.header in
      let count : h.count ≡ count_of state = ap (λ (k : Header). k.count) fit.header in
      rw fit.good (rw (order, count) at found)

  -- a test applied
  pub refused : (algebras sizes weights : List ℕ) (allowance : ℕ) {scratch results : List ℕ} (reason : Reason)
      → first 0 (run_table h.order h.count algebras sizes weights scratch results) ≡ reason_number reason
      → Answered (Err reason) state scratch results (ran state algebras sizes weights allowance scratch results)
  refused algebras sizes weights allowance {scratch} {results} reason found =
      run_turned state algebras sizes weights allowance scratch results reason (tested algebras sizes weights scratch results found)

  -- the tests passed so far
  module _ {sizes : List ℕ} (count : length sizes ≡ h.count) (passed : any_outside h.order sizes ≡ false) where
    -- what words_before asks of the sizes
    pub sizes_small : Small sizes
    sizes_small = tested_small sizes (omega (arith, count, fit.ranged.few)) fit.ranged.most passed

    module _ {algebras weights : List ℕ} (one_each : length algebras ≡ h.count) (long : length weights ≡ words_of sizes) where
      -- what any_above asks
      pub parts : Parts algebras sizes weights
      parts = record {
        some = omega (arith, count, fit.ranged.some);
        small = sizes_small;
        algebras_fit = one_each ∙ sym count;
        weights_fit = long;
      }

      pub runnable : (allowance : ℕ) {made : ℕ} {scratch results : List ℕ} → length scratch ≡ scratch_length h.order → length results ≡ words_of sizes
          → made ≡ min allowance (total h.order h.count - h.tick) → Runnable h made algebras sizes weights scratch state results
      runnable allowance room whole smaller = record {
        header = fit.header;
        state_fits = fit.state_fits;
        scratch_fits = room;
        list = record {
          ranged = rw count fit.ranged;
          algebras_fit = one_each ∙ sym count;
          sizes_fit = sizes_fit h.order sizes passed;
        };
        weights_fit = long;
        results_fit = whole;
        ticks_left = rw (count, smaller) (made_within (total h.order h.count) allowance fit.within);
      }

  -- no test applied
  pub accepted : (algebras sizes weights : List ℕ) (allowance : ℕ) (scratch results : List ℕ) {made : ℕ} {state' scratch' results' : List ℕ}
      → first 0 (run_table h.order h.count algebras sizes weights scratch results) ≡ 0
      → made ≡ min allowance (total h.order h.count - h.tick)
      → RunLeft made algebras sizes weights state results state' results' → scratch' ≡ replicate (length scratch) 0
      → Answered (Ok made) state' scratch' results' (ran state algebras sizes weights allowance scratch results)
  accepted algebras sizes weights allowance scratch results {made} {state'} {scratch'} {results'} found smaller left_by clears =
      run_accepted state algebras sizes weights allowance scratch results made state' scratch' results' (tested algebras sizes weights scratch results found)
      (smaller ∙ ap (λ (k : Header). min allowance (total k.order k.count - k.tick)) fit.header) left_by clears
