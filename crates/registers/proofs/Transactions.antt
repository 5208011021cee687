-- A list of reads and writes: what is seen of its runs is what the same runs made directly give.
use Prim.Native.Nat.{ℕ, ◌+◌, ◌-◌}
use native.Mathlib.Omega.{arith}
use mathlib.Core.Path.{◌≡◌, refl, sym, ap, ◌∙◌}
use mathlib.Core.List.{List, [], ◌∷◌}
use mathlib.Core.Bool.{Bool, true, false, cond}
use lib.Dec.{eqb}
use borrow.Author.Tests.{eqb-true, eqb-false}
use Rattle.systolic.specs.State.{tick_of}
use Rattle.systolic.specs.Run.{Ran, ran}
use Rattle.systolic.specs.claims.Demand.{Call, Runs, runs}
use Rattle.systolic.proofs.Refusals.{run_kept}
use Rattle.registers.specs.Reading.{read_tests, byte_at}
use Rattle.registers.specs.Writing.{JobsLent, Lent, ran_of, cleared_by, run_shown, Written, written}
use Rattle.registers.specs.claims.Transactions.{Transaction, reading, writing, Card, lent_by, card_after, runs_array, with_seen}
use Rattle.registers.specs.claims.Transactions.{after_write, transacted, allowance_after, calls_in, runs_of, direct, SameRuns, ReadsChangeNothing, Answer, ReadsAnswered}
use Rattle.systolic.proofs.Fit.{accepted_run_lem}
use Rattle.registers.proofs.Views as views

-- By how much a run brings the state's tick on.
module _ (state algebras sizes weights : List ℕ) (allowance : ℕ) (scratch results : List ℕ) where
  abbrev one : Ran
  one = ran state algebras sizes weights allowance scratch results

  ticks_by : (b : Bool) → eqb one.number 0 ≡ b → tick_of one.state - tick_of state ≡ one.made
  ticks_by true e =
      let a = accepted_run_lem state algebras sizes weights allowance scratch results (eqb-true one.number 0 e) in
      omega (arith, a.tick)
  ticks_by false e =
      let k = run_kept state algebras sizes weights allowance scratch results (eqb-false one.number 0 e) in
      let same : tick_of one.state ≡ tick_of state = ap (λ (s : List ℕ). tick_of s) k.state_kept in
      omega (arith, same, k.none_made)

  pub ticks_seen : tick_of one.state - tick_of state ≡ one.made
  ticks_seen = ticks_by (eqb one.number 0) refl

-- A list's first run and the rest.
abbrev pub with_run : Call → Ran → Runs → Runs
with_run call one rest = record {
  numbers = one.number ∷ rest.numbers;
  allowed = cond (eqb one.number 0) call.allowance 0 + rest.allowed;
  made = one.made + rest.made;
  state = rest.state;
  results = rest.results;
  scratches = one.scratch ∷ rest.scratches;
}

module _ (jobs : JobsLent) where
  pub runs_cons : (call : Call) (calls : List Call) (state results : List ℕ)
      → runs_of jobs (call ∷ calls) state results
      ≡ (let one = ran_of jobs state call.allowance call.scratch results in
      with_run call one (runs_of jobs calls one.state one.results))
  unfolding runs
  runs_cons call calls state results = refl

  module _ (ts : List Transaction) (later : (c : Card) → (transacted jobs ts c).seen ≡ direct jobs ts c) (c : Card)
      (byte : ℕ) (scratch : List ℕ) where
    abbrev m : Lent
    m = lent_by jobs scratch c

    abbrev calls : ℕ → List Call
    calls offset = let rest = calls_in (allowance_after c.window.allowance offset byte) ts in
        cond (runs_array offset byte) (record { allowance = c.window.allowance; scratch = scratch } ∷ rest) rest

    step : (offset : ℕ) (due : Written) → views.View c.window byte m offset due
        → (after_write (runs_array offset byte) c due (transacted jobs ts (card_after due))).seen
        ≡ runs_of jobs (calls offset) c.state c.results
    unfolding run_shown
    step offset due (views.runs e) =
        let after : Written = run_shown (cleared_by c.window byte) m in
        let call : Call = record { allowance = c.window.allowance; scratch = scratch } in
        let first = runs_cons call (calls_in c.window.allowance ts) c.state c.results in
        rw (e, first, later (card_after after), ticks_seen c.state jobs.algebras jobs.sizes jobs.weights c.window.allowance scratch c.results)
    step offset due (views.clears e) = rw (e, later (card_after due))
    step offset due views.low = later (card_after due)
    step offset due views.high = later (card_after due)
    step offset due views.enables = later (card_after due)
    step offset due (views.refuses at number r) = rw (r.not_control, r.not_low, r.not_high) (later (card_after due))

pub same_runs : SameRuns
unfolding transacted calls_in runs
same_runs jobs [] c = refl
same_runs jobs (reading offset ∷ ts) c = same_runs jobs ts c
same_runs jobs (writing offset byte scratch ∷ ts) c =
    step jobs ts (same_runs jobs ts) c byte scratch offset (written c.window offset byte (lent_by jobs scratch c))
    (views.view c.window byte (lent_by jobs scratch c) offset)

pub reads_change_nothing : ReadsChangeNothing
unfolding transacted
reads_change_nothing jobs [] c = (refl, refl)
reads_change_nothing jobs (reading offset ∷ ts) c = reads_change_nothing jobs ts c
reads_change_nothing jobs (writing offset byte scratch ∷ ts) c =
    let due = written c.window offset byte (lent_by jobs scratch c) in
    let (card, seen) = reads_change_nothing jobs ts (card_after due) in
    (card, ap (λ (r : Runs). cond (runs_array offset byte) (with_seen c due r) r) seen)

pub reads_answered : ReadsAnswered
unfolding transacted
reads_answered jobs [] offset later c = refl
reads_answered jobs (reading at ∷ before) offset later c =
    ap (λ (l : List Answer). record { number = read_tests at; byte = byte_at c.window at } ∷ l) (reads_answered jobs before offset later c)
reads_answered jobs (writing at byte scratch ∷ before) offset later c =
    let due = written c.window at byte (lent_by jobs scratch c) in
    ap (λ (l : List Answer). record { number = due.number; byte = 0 } ∷ l) (reads_answered jobs before offset later (card_after due))

-- What is seen of the state and the results is what the list left.
seen_state : (b : Bool) (c : Card) (due : Written) (r : Runs) → (cond b (with_seen c due r) r).state ≡ r.state
seen_state true c due r = refl
seen_state false c due r = refl

seen_results : (b : Bool) (c : Card) (due : Written) (r : Runs) → (cond b (with_seen c due r) r).results ≡ r.results
seen_results true c due r = refl
seen_results false c due r = refl

pub state_seen : (jobs : JobsLent) (ts : List Transaction) (c : Card)
    → (transacted jobs ts c).card.state ≡ (transacted jobs ts c).seen.state
unfolding transacted
state_seen jobs [] c = refl
state_seen jobs (reading offset ∷ ts) c = state_seen jobs ts c
state_seen jobs (writing offset byte scratch ∷ ts) c =
    let due = written c.window offset byte (lent_by jobs scratch c) in
    state_seen jobs ts (card_after due) ∙ sym (seen_state (runs_array offset byte) c due (transacted jobs ts (card_after due)).seen)

pub results_seen : (jobs : JobsLent) (ts : List Transaction) (c : Card)
    → (transacted jobs ts c).card.results ≡ (transacted jobs ts c).seen.results
unfolding transacted
results_seen jobs [] c = refl
results_seen jobs (reading offset ∷ ts) c = results_seen jobs ts c
results_seen jobs (writing offset byte scratch ∷ ts) c =
    let due = written c.window offset byte (lent_by jobs scratch c) in
    results_seen jobs ts (card_after due) ∙ sym (seen_results (runs_array offset byte) c due (transacted jobs ts (card_after due)).seen)
