-- Demand 3.
use Prim.Native.Nat.{ℕ, ◌*◌, zero-le}
use native.Mathlib.Nat.{zero-add}
use native.Mathlib.Omega.{arith}
use mathlib.Core.Path.{◌≡◌, ap, ◌∙◌}
use mathlib.Core.List.{List}
use lib.ListN.{length-replicate}
use Rattle.job_list.specs.Fits.{ListAccepted}
use Rattle.job_list.specs.Jobs.{Jobs, count, jobs_of}
use Rattle.systolic.specs.Tick.{Array, ticks}
use Rattle.systolic.specs.State.{state_words, planes_of}
use Rattle.systolic.specs.Start.{start_tests, started, state_after_start, zero_planes}
use Rattle.systolic.specs.claims.Demand.{Call, Runs, runs, Claim, Demand3}
use Rattle.job_list.proofs.Places.{entry_find}
use Rattle.job_list.proofs.Fits.{algebra_named_lem}
use Rattle.systolic.specs.Cell.{Sized}
use Rattle.systolic.proofs.Ticks.{Reached, reached}
use Rattle.systolic.proofs.Started.{started_by}
use Rattle.systolic.proofs.State.{planes_of_state_words}
use Rattle.systolic.proofs.Runs.{After, runs_after, scratches_unfit}

pub zero-sized : (order : ℕ) → Sized order (zero_planes order)
zero-sized order =
    let e = length-replicate {A = ℕ} (order * order) 0 in
    record { c = e; a = e; b = e }

-- What start left, with the results lent to the first run.
abbrev fresh : ℕ → List ℕ → Array
fresh order results = record { planes = zero_planes order; results = results }

-- The state that start left.
abbrev begun : Jobs → List ℕ
begun J = state_words J.order (count J) 0 (zero_planes J.order)

claimed : {J : Jobs} {calls : List Call} {results : List ℕ} {after : Runs}
    → ((T : ℕ) → Reached J results T (ticks J 0 T (fresh J.order results)))
    → After J (fresh J.order results) 0 calls after → Claim J (begun J) calls results after
unfolding ticks
claimed {J} {calls} {results} {after} reached run =
    let planes : planes_of (begun J) ≡ zero_planes J.order =
    planes_of_state_words J.order (count J) 0 (zero_planes J.order) (zero-sized J.order) in
    let state : after.state
    ≡ state_words J.order (count J) after.made (ticks J 0 after.made (fresh J.order results)).planes =
    rw (zero-add after.made) at run.state in
    let words : after.results ≡ (ticks J 0 after.made (fresh J.order results)).results =
    rw (zero-add after.made) at run.results in
    record {
      refusals = run.numbers;
      made = omega (arith, run.made);
      tick = rw state;
      state = rw planes state;
      scratches = run.scratches;
      entry = λ fits q i k hq hi hk.
          rw words ((reached after.made).entry fits (record { job = hq; row = hi; column = hk }));
      length_kept = rw words (reached after.made).length_kept;
      all_entries = λ fits p h.
          let (q, i, k, at, e) = entry_find {J = J} p (omega arith) in
          (q, i, k, at.job, at.row, at.column, e);
      unfit = λ d.
          let none : after.made ≡ 0 = omega (arith, run.made, run.unfit d) in (
            none,
            state
                ∙ ap (λ (T : ℕ). state_words J.order (count J) T (ticks J 0 T (fresh J.order results)).planes) none,
            words ∙ ap (λ (T : ℕ). (ticks J 0 T (fresh J.order results)).results) none,
            run.scratches ∙ scratches_unfit J.order J.sizes results d calls,
          );
    }

module _ {algebras : List ℕ} {order : ℕ} {sizes weights : List ℕ} (list : ListAccepted (jobs_of algebras order sizes weights))
    (calls : List Call) (results : List ℕ) where
  pub started_claim :
      Claim (jobs_of algebras order sizes weights) (started order sizes) calls results
      (runs algebras sizes weights calls (started order sizes) results)
  unfolding ticks
  started_claim =
      claimed (λ T. reached list T (fresh order results))
      (runs_after list (fresh order results) (zero-sized order) calls 0 zero-le)

-- The same from what start leaves in a state that was lent to it.
pub start_claim : (algebras : List ℕ) (order : ℕ) (sizes weights state : List ℕ) → start_tests algebras order sizes weights state ≡ 0
    → (calls : List Call) (results : List ℕ)
    → (let begun = state_after_start algebras order sizes weights state in
    Claim (jobs_of algebras order sizes weights) begun calls results (runs algebras sizes weights calls begun results))
start_claim algebras order sizes weights state e calls results =
    rw e (started_claim (started_by algebras order sizes weights state e) calls results)

pub demand3 : Demand3
demand3 algebras order sizes weights state e =
    (algebra_named_lem (started_by algebras order sizes weights state e), start_claim algebras order sizes weights state e)
