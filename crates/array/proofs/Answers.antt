-- Run's answers: what a header that was read tells, and the definition of a run where it is refused and where it is accepted.
use Prim.Native.Nat.{ℕ, ◌≤◌}
use mathlib.Core.Path.{◌≡◌, refl}
use mathlib.Core.List.{List}
use mathlib.Core.Bool.{Bool, true, false, cond}
use lib.ListN.{length, replicate}
use borrow.Author.Tests.{ne_eqb}
use Rattle.std.specs.Prelude.{Ok, Err}
use Rattle.refusals.specs.Reason.{reason_number}
use Rattle.refusals.specs.declared.Reason.{Reason}
use Rattle.refusals.specs.declared.Reason.TheVariants.{StateUnfit}
use Rattle.refusals.proofs.Reasons.{reason_some}
use Rattle.job_list.specs.Fits.{Ranged}
use Rattle.systolic.specs.State.{state_length, total}
use Rattle.systolic.specs.Run.{bad_state, run_tests, ticks_made, ran_on, refused_run, ran}
use Rattle.systolic.proofs.Fit.{state_fits}
use Rattle.state_header.specs.declared.Header.{Header}
use Rattle.state_header.specs.inner.Header.{header_of, Told}
use Rattle.array.specs.RunAnswer.{Answered}
use Rattle.state_ticks.specs.inner.Runnable.{RunLeft}

pub record HeaderFits (h : Header) (state : List ℕ) : Type 0 where
  pub header : h ≡ header_of state
  pub good : bad_state state ≡ false
  pub ranged : Ranged h.order h.count
  pub state_fits : length state ≡ state_length h.order
  pub within : h.tick ≤ total h.order h.count

good-state : (state : List ℕ) → bad_state state ≡ false → HeaderFits (header_of state) state
good-state state e =
    let fits = state_fits state e in
    record { header = refl; good = e; ranged = fits.ranged; state_fits = fits.length_fits; within = fits.within }

fit_by : (h : Header) (state : List ℕ) (bad : Bool) → bad_state state ≡ bad → Ok h ≡ cond bad (Err StateUnfit) (Ok (header_of state)) → HeaderFits h state
fit_by h state true b e = absurd cc
fit_by h state false b e = let head : header_of state ≡ h = cc in rw (← head) (good-state state b)

pub header_fits : {h : Header} {state : List ℕ} → Told (Ok h) state → HeaderFits h state
header_fits {h} {state} read = fit_by h state (bad_state state) refl read.is

module _ (state algebras sizes weights : List ℕ) (allowance : ℕ) (scratch results : List ℕ) where
  -- a refusal: its number, no tick, and every word as it was
  pub run_turned : (reason : Reason) → run_tests state algebras sizes weights scratch results ≡ reason_number reason
      → Answered (Err reason) state scratch results (ran state algebras sizes weights allowance scratch results)
  unfolding ran refused_run
  run_turned reason e =
      rw (e, ne_eqb (reason_number reason) 0 (reason_some reason))
      (record { number = refl; made = refl; state_after = refl; scratch_after = refl; results_after = refl })

  pub run_accepted : (made : ℕ) (state' scratch' results' : List ℕ)
      → run_tests state algebras sizes weights scratch results ≡ 0
      → made ≡ ticks_made state allowance
      → RunLeft made algebras sizes weights state results state' results'
      → scratch' ≡ replicate (length scratch) 0
      → Answered (Ok made) state' scratch' results' (ran state algebras sizes weights allowance scratch results)
  unfolding ran ran_on
  run_accepted made state' scratch' results' e is_made left is_scratch =
      rw (e, left.state_left, left.results_left, is_scratch, is_made)
      (record { number = refl; made = refl; state_after = refl; scratch_after = refl; results_after = refl })

  unfit_by : (reason : Reason) (bad : Bool) → bad_state state ≡ bad → Err reason ≡ cond bad (Err StateUnfit) (Ok (header_of state))
      → run_tests state algebras sizes weights scratch results ≡ reason_number reason
  unfit_by reason true b e = let is : reason ≡ StateUnfit = cc in rw (b, is)
  unfit_by reason false b e = absurd cc

  -- the state's header was not read
  pub unfit : (reason : Reason) → Told (Err reason) state
      → Answered (Err reason) state scratch results (ran state algebras sizes weights allowance scratch results)
  unfit reason read = run_turned reason (unfit_by reason (bad_state state) refl read.is)
