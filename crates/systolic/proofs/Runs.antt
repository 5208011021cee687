-- A list of runs: each one is accepted or refused by its scratch and its results alone, and what the accepted ones leave is as many
-- ticks as they made together.
use Prim.Native.Nat.{ℕ, ◌+◌, ◌-◌, ◌≤◌, min}
use native.Mathlib.Nat.{zero-add, add-zero}
use native.Mathlib.Omega.{arith}
use native.Mathlib.Decide.{ℕ_discrete}
use mathlib.Core.Path.{◌≡◌, refl, sym, ap, ◌∙◌}
use mathlib.Core.List.{List, [], ◌∷◌, map}
use mathlib.Core.Bool.{Bool, true, false, cond, not}
use lib.ListN.{length, replicate}
use lib.Dec.{eqb}
use borrow.Author.Tests.{le-ltb, eq-eqb, ne_eqb}
use Rattle.job_list.specs.Jobs.{Jobs, count, words_of, jobs_of}
use Rattle.systolic.specs.Cell.{Planes, Sized}
use Rattle.systolic.specs.Tick.{Array, ticks}
use Rattle.systolic.specs.State.{state_words, state_length, scratch_length, total}
use Rattle.systolic.specs.Run.{Ran, bad_state, run_tests, ran_on, refused_run, ran}
use Rattle.systolic.specs.claims.Demand.{Call, Runs, runs, number_due, scratch_due}
use Rattle.systolic.proofs.Ticks.{ticks_add, ticks_sized, reached}
use Rattle.job_list.specs.Fits.{ListAccepted}
use Rattle.job_list.proofs.Fits.{order_passes, count_passes, numbers_pass, sizes_pass, words_pass}
use Rattle.systolic.proofs.State.{state_words_length, planes_of_state_words}

-- What an accepted run answers and leaves that brings the array to m.
abbrev pub accepted_run : ℕ → ℕ → ℕ → ℕ → List ℕ → Array → Ran
accepted_run order count tick made scratch m = record {
  number = 0;
  made = made;
  state = state_words order count tick m.planes;
  results = m.results;
  scratch = replicate (length scratch) 0;
}

module _ {algebras : List ℕ} {order : ℕ} {sizes weights : List ℕ} (list : ListAccepted (jobs_of algebras order sizes weights)) (T : ℕ) (r : Planes) (sized : Sized order r)
    (within : T ≤ total order (length sizes)) where
  state_good : bad_state (state_words order (length sizes) T r) ≡ false
  state_good =
      let words : List ℕ = state_words order (length sizes) T r in
      let long = le-ltb (length words) 4 (omega arith) in
      let fits = eq-eqb (length words) (state_length order) (state_words_length order (length sizes) T r sized) in
      rw (long, order_passes list.fits, count_passes list.fits, fits, le-ltb (total order (length sizes)) T within)

  run_tests_lem : (scratch results : List ℕ)
      → run_tests (state_words order (length sizes) T r) algebras sizes weights scratch results ≡ number_due order sizes scratch results
  run_tests_lem scratch results =
      let jobs = eq-eqb (length sizes) (length sizes) refl in
      let one_each = eq-eqb (length algebras) (length sizes) list.fits.algebras_fit in
      let fits = eq-eqb (length weights) (words_of sizes) list.weights_fit in
      rw (state_good, jobs, one_each, numbers_pass list, sizes_pass list.fits, fits, words_pass list)

  -- A run that is accepted, and one that is refused.
  pub run_accepted : (allowance : ℕ) (scratch results : List ℕ) → number_due order sizes scratch results ≡ 0
      → ran (state_words order (length sizes) T r) algebras sizes weights allowance scratch results
      ≡ (let made = min allowance (total order (length sizes) - T) in
      accepted_run order (length sizes) (T + made) made scratch
      (ticks (jobs_of algebras order sizes weights) T made (record { planes = r; results = results })))
  unfolding ran ran_on
  run_accepted allowance scratch results e =
      rw (run_tests_lem scratch results, e, planes_of_state_words order (length sizes) T r sized)

  pub run_refused : (allowance : ℕ) (scratch results : List ℕ) → (number_due order sizes scratch results ≡ 0 → ⊥)
      → ran (state_words order (length sizes) T r) algebras sizes weights allowance scratch results
      ≡ refused_run (number_due order sizes scratch results) (state_words order (length sizes) T r) scratch results
  unfolding ran
  run_refused allowance scratch results d =
      rw (run_tests_lem scratch results, ne_eqb (number_due order sizes scratch results) 0 d)

-- A list's first run and the rest.
abbrev joined : Call → Ran → Runs → Runs
joined call one rest = record {
  numbers = one.number ∷ rest.numbers;
  allowed = cond (eqb one.number 0) call.allowance 0 + rest.allowed;
  made = one.made + rest.made;
  state = rest.state;
  results = rest.results;
  scratches = one.scratch ∷ rest.scratches;
}

runs_cons : (algebras sizes weights : List ℕ) (call : Call) (calls : List Call) (state results : List ℕ) {one : Ran}
    → ran state algebras sizes weights call.allowance call.scratch results ≡ one
    → runs algebras sizes weights (call ∷ calls) state results ≡ joined call one (runs algebras sizes weights calls one.state one.results)
unfolding runs
runs_cons algebras sizes weights call calls state results =
    ap (λ (one : Ran). joined call one (runs algebras sizes weights calls one.state one.results))

-- What a list of runs leaves that begins after T ticks from the array x.
pub record After (J : Jobs) (x : Array) (T : ℕ) (calls : List Call) (after : Runs) : Type 0 where
  pub numbers : after.numbers ≡ map (λ (call : Call). number_due J.order J.sizes call.scratch x.results) calls
  pub scratches : after.scratches ≡ map (λ (call : Call). scratch_due J.order J.sizes call.scratch x.results) calls
  pub made : T + after.made ≡ min (T + after.allowed) (total J.order (count J))
  pub state :
      after.state
      ≡ state_words J.order (count J) (T + after.made) (ticks J 0 (T + after.made) x).planes
  pub results : after.results ≡ (ticks J 0 (T + after.made) x).results
  pub unfit : (length x.results ≡ words_of J.sizes → ⊥) → after.allowed ≡ 0

-- Where the results do not fit, a run is refused.
due_unfit : (order : ℕ) (sizes scratch results : List ℕ) → (length results ≡ words_of sizes → ⊥)
    → number_due order sizes scratch results ≡ 0 → ⊥
due_unfit order sizes scratch results d e =
    go (not (eqb (length scratch) (scratch_length order))) (rw (ne_eqb (length results) (words_of sizes) d) at e)
  where
    go : (b : Bool) → ◌≡◌ {A = ℕ} (cond b 12 4) 0 → ⊥
    go true f = omega arith
    go false f = omega arith

-- Then every scratch is as it was lent.
pub scratches_unfit : (order : ℕ) (sizes results : List ℕ) → (length results ≡ words_of sizes → ⊥) → (calls : List Call)
    → map (λ (call : Call). scratch_due order sizes call.scratch results) calls ≡ map (λ (call : Call). call.scratch) calls
scratches_unfit order sizes results d [] = refl
scratches_unfit order sizes results d (call ∷ calls) =
    rw (
      ne_eqb (number_due order sizes call.scratch results) 0 (due_unfit order sizes call.scratch results d),
      scratches_unfit order sizes results d calls,
    )

-- One run in front of a list: the ticks it may make, where it is accepted.
module _ {J : Jobs} {x : Array} {T : ℕ} (call : Call) {calls : List Call} (one : Ran) {rest : Runs}
    (within : T ≤ total J.order (count J))
    (number : one.number ≡ number_due J.order J.sizes call.scratch x.results)
    (scratch : one.scratch ≡ scratch_due J.order J.sizes call.scratch x.results)
    (after : After J x (T + one.made) calls rest) where
  after_one :
      T + (one.made + rest.made)
      ≡ min (T + (cond (eqb one.number 0) call.allowance 0 + rest.allowed)) (total J.order (count J))
      → After J x T (call ∷ calls) (joined call one rest)
  after_one made =
      let e : T + (one.made + rest.made) ≡ T + one.made + rest.made = omega arith in
      record {
        numbers = rw (number, after.numbers);
        scratches = rw (scratch, after.scratches);
        made = made;
        state = rw e after.state;
        results = rw e after.results;
        unfit = λ d.
            let f = due_unfit J.order J.sizes call.scratch x.results d in
            rw (number, ne_eqb (number_due J.order J.sizes call.scratch x.results) 0 f) (omega (arith, after.unfit d));
      }

  after_accepted : one.number ≡ 0 → one.made ≡ min call.allowance (total J.order (count J) - T)
      → After J x T (call ∷ calls) (joined call one rest)
  after_accepted e made = after_one (rw (eq-eqb one.number 0 e) (omega (arith, after.made)))

  after_refused : (one.number ≡ 0 → ⊥) → one.made ≡ 0 → After J x T (call ∷ calls) (joined call one rest)
  after_refused d made = after_one (rw (ne_eqb one.number 0 d) (omega (arith, after.made)))

module _ {algebras : List ℕ} {order : ℕ} {sizes weights : List ℕ} (list : ListAccepted (jobs_of algebras order sizes weights)) (x : Array) (sized : Sized order x.planes) where
  -- the array, the state and the results after T ticks
  abbrev array_at : ℕ → Array
  array_at T = ticks (jobs_of algebras order sizes weights) 0 T x

  abbrev state_at : ℕ → List ℕ
  state_at T = state_words order (length sizes) T (array_at T).planes

  abbrev results_at : ℕ → List ℕ
  results_at T = (array_at T).results

  -- a list of runs that begins there
  abbrev RunsFrom : List Call → ℕ → Type 0
  RunsFrom calls T =
      After (jobs_of algebras order sizes weights) x T calls (runs algebras sizes weights calls (state_at T) (results_at T))

  sized_at : (T : ℕ) → Sized order (array_at T).planes
  sized_at T = ticks_sized (jobs_of algebras order sizes weights) 0 T x sized

  runs_none : (T : ℕ) → T ≤ total order (length sizes) → RunsFrom [] T
  unfolding runs
  runs_none T within = record {
    numbers = refl;
    scratches = refl;
    made = omega arith;
    state = rw (add-zero T);
    results = rw (add-zero T);
    unfit = λ d. refl;
  }

  module _ (call : Call) (T : ℕ) (within : T ≤ total order (length sizes)) where
    abbrev due : ℕ
    due = number_due order sizes call.scratch x.results

    -- Ticks keep the length of the results, so the number due is that of the first results.
    due_kept : number_due order sizes call.scratch (results_at T) ≡ due
    due_kept = rw (reached list T x).length_kept

    -- what the run answers and leaves, accepted and refused
    abbrev taken : ℕ → Ran
    taken made = accepted_run order (length sizes) (T + made) made call.scratch (array_at (T + made))

    abbrev turned : Ran
    turned = record { number = due; made = 0; state = state_at T; results = results_at T; scratch = call.scratch }

    more : (made : ℕ) → ticks (jobs_of algebras order sizes weights) T made (array_at T) ≡ array_at (T + made)
    more made = rw (ticks_add (jobs_of algebras order sizes weights) 0 T made x, zero-add T)

    run_taken : due ≡ 0
        → ran (state_at T) algebras sizes weights call.allowance call.scratch (results_at T)
        ≡ taken (min call.allowance (total order (length sizes) - T))
    run_taken e =
        let made : ℕ = min call.allowance (total order (length sizes) - T) in
        run_accepted list T (array_at T).planes (sized_at T) within call.allowance call.scratch (results_at T)
        (due_kept ∙ e)
        ∙ ap (accepted_run order (length sizes) (T + made) made call.scratch) (more made)

    run_turned : (due ≡ 0 → ⊥) → ran (state_at T) algebras sizes weights call.allowance call.scratch (results_at T) ≡ turned
    unfolding refused_run
    run_turned d =
        rw (← due_kept)
        (run_refused list T (array_at T).planes (sized_at T) within call.allowance call.scratch (results_at T)
        (λ e. d (sym due_kept ∙ e)))

    runs_one : (calls : List Call) → ((U : ℕ) → U ≤ total order (length sizes) → RunsFrom calls U) → Dec (due ≡ 0)
        → RunsFrom (call ∷ calls) T
    runs_one calls f (yes e) =
        let made : ℕ = min call.allowance (total order (length sizes) - T) in
        rw (runs_cons algebras sizes weights call calls (state_at T) (results_at T) (run_taken e))
        (after_accepted call (taken made) within (sym e) (rw (eq-eqb due 0 e)) (f (T + made) (omega arith)) refl refl)
    runs_one calls f (no d) =
        rw (runs_cons algebras sizes weights call calls (state_at T) (results_at T) (run_turned d))
        (after_refused call turned within refl (rw (ne_eqb due 0 d)) (rw (add-zero T) (f T within)) d refl)

  pub runs_after : (calls : List Call) (T : ℕ) → T ≤ total order (length sizes)
      → After (jobs_of algebras order sizes weights) x T calls
      (runs algebras sizes weights calls
      (state_words order (length sizes) T (ticks (jobs_of algebras order sizes weights) 0 T x).planes)
      (ticks (jobs_of algebras order sizes weights) 0 T x).results)
  runs_after [] T within = runs_none T within
  runs_after (call ∷ calls) T within =
      runs_one call T within calls (runs_after calls) (ℕ_discrete (number_due order sizes call.scratch x.results) 0)
