-- What a driver may conclude from done. The run that sets it leaves the state's tick at the total, and by demand 3 that tick is the ticks made; no run
-- goes further, so all ticks are made from then on, and every entry has left.
use Prim.Native.Nat.{ℕ, ◌+◌, ◌-◌, ◌*◌, ◌%◌, ◌≤◌}
use native.Mathlib.Omega.{arith}
use native.Mathlib.Decide.{ℕ_discrete}
use mathlib.Core.Path.{◌≡◌, refl, sym, ap, ◌∙◌}
use mathlib.Core.Logic.{◌⊎◌, inl, inr}
use mathlib.Core.List.{List, [], ◌∷◌, ◌++◌}
use mathlib.Core.Bool.{Bool, true, false, cond, true≢false}
use lib.ListN.{length}
use lib.Dec.{eqb}
use borrow.Author.Tests.{eqb-true, eq-eqb}
use Rattle.memory.proofs.Any.{both_true}
use Rattle.job_list.specs.Jobs.{Jobs, jobs_of, words_of}
use Rattle.systolic.specs.State.{order_of, count_of, tick_of, total}
use Rattle.systolic.specs.Start.{start_tests, started, state_after_start}
use Rattle.systolic.specs.Run.{Ran}
use Rattle.systolic.specs.claims.Demand.{Runs}
use Rattle.systolic.proofs.Corollaries.{past_word}
use Rattle.systolic.proofs.Started.{started_by}
use Rattle.systolic.proofs.Totals.{tick_within}
use Rattle.registers.specs.Registers.{Registers}
use Rattle.registers.specs.Writing.{JobsLent, ran_of, no_tick_left, Written}
use Rattle.registers.specs.claims.Transactions.{Transaction, reading, writing, Card, card_after, with_seen, runs_array, transacted, started_card, Demanded}
use Rattle.registers.specs.claims.Shown.{clears_done, run_after, FinishedIn}
use Rattle.registers.specs.claims.Driver.{LastTickMade, AllClosed, DoneToldClaim}
use Rattle.registers.proofs.Transactions.{same_runs, state_seen, results_seen}
use Rattle.registers.proofs.Steps.{due_of, one_of, ran_state, ran_window}
use Rattle.registers.proofs.Bytes.{allowance_held_lem}
use Rattle.registers.proofs.Done.{set_done, done_set}
use Rattle.registers.proofs.Demand.{demand3_window}

module _ (jobs : JobsLent) where
  -- a list is its first part and then the rest
  card_then : (first rest : List Transaction) (c : Card)
      → (transacted jobs (first ++ rest) c).card ≡ (transacted jobs rest (transacted jobs first c).card).card
  unfolding transacted
  card_then [] rest c = refl
  card_then (reading offset ∷ first) rest c = card_then first rest c
  card_then (writing offset byte scratch ∷ first) rest c = card_then first rest (card_after (due_of jobs c offset byte scratch))

  -- more transactions make no fewer ticks
  seen_more : (b : Bool) (c : Card) (due : Written) (fewer more : Runs) → fewer.made ≤ more.made
      → (cond b (with_seen c due fewer) fewer).made ≤ (cond b (with_seen c due more) more).made
  seen_more true c due fewer more h = omega arith
  seen_more false c due fewer more h = h

  made_grows : (first : List Transaction) (t : Transaction) (later : List Transaction) (c : Card)
      → (transacted jobs (first ++ (t ∷ [])) c).seen.made ≤ (transacted jobs (first ++ (t ∷ later)) c).seen.made
  unfolding transacted
  made_grows [] (reading offset) later c = omega arith
  made_grows [] (writing offset byte scratch) later c =
      let due = due_of jobs c offset byte scratch in
      seen_more (runs_array offset byte) c due (transacted jobs [] (card_after due)).seen (transacted jobs later (card_after due)).seen (omega arith)
  made_grows (reading offset ∷ first) t later c = made_grows first t later c
  made_grows (writing offset byte scratch ∷ first) t later c =
      let due = due_of jobs c offset byte scratch in
      seen_more (runs_array offset byte) c due (transacted jobs (first ++ (t ∷ [])) (card_after due)).seen
      (transacted jobs (first ++ (t ∷ later)) (card_after due)).seen (made_grows first t later (card_after due))

  -- a write that runs the array, after some transactions
  module _ (before : List Transaction) (byte : ℕ) (scratch : List ℕ) (c : Card) (runs_here : eqb (byte % 2) 1 ≡ true) where
    abbrev there : Card
    there = (transacted jobs before c).card

    abbrev after : Card
    after = (transacted jobs (before ++ (writing 0 byte scratch ∷ [])) c).card

    here : after ≡ card_after (due_of jobs there 0 byte scratch)
    unfolding transacted
    here = card_then before (writing 0 byte scratch ∷ []) c

    -- it is the run made directly
    same_run : one_of jobs there 0 byte scratch ≡ run_after jobs before scratch c
    same_run =
        let same = same_runs jobs before c in
        let state = state_seen jobs before c ∙ ap (λ (r : Runs). r.state) same in
        let results = results_seen jobs before c ∙ ap (λ (r : Runs). r.results) same in
        let allowance = allowance_held_lem jobs before c in
        λ i. ran_of jobs (state i) (allowance i) scratch (results i)

    number_here : after.window.number ≡ (run_after jobs before scratch c).number
    number_here =
        ap (λ (x : Card). x.window.number) here
        ∙ ap (λ (w : Registers). w.number) (ran_window jobs there 0 byte scratch runs_here)
        ∙ ap (λ (r : Ran). r.number) same_run

    state_here : after.state ≡ (run_after jobs before scratch c).state
    state_here = ap (λ (x : Card). x.state) here ∙ ran_state jobs there 0 byte scratch runs_here ∙ ap (λ (r : Ran). r.state) same_run

-- A started array.
module _ (jobs : JobsLent) (order : ℕ) (state : List ℕ) (e : start_tests jobs.algebras order jobs.sizes jobs.weights state ≡ 0)
    (results : List ℕ) where
  abbrev J : Jobs
  J = jobs_of jobs.algebras order jobs.sizes jobs.weights

  abbrev c : Card
  c = started_card jobs order state results

  abbrev all : ℕ
  all = 4 * order * length jobs.sizes + 2 * order - 2

  -- the state's words after a list of transactions: its total, and its tick
  record Counted (ts : List Transaction) : Type 0 where
    whole : total (order_of (transacted jobs ts c).card.state) (count_of (transacted jobs ts c).card.state) ≡ all
    tick : tick_of (transacted jobs ts c).card.state ≡ (transacted jobs ts c).seen.made
    most : (transacted jobs ts c).seen.made ≤ all

  counted : (ts : List Transaction) → Counted ts
  counted ts =
      let d = demand3_window jobs order state e ts results in
      let words = d.state_seen ∙ d.claim.state in
      let begun : state_after_start jobs.algebras order jobs.sizes jobs.weights state ≡ started order jobs.sizes = rw e in
      record {
        whole = rw (words, begun);
        tick = ap tick_of d.state_seen ∙ d.claim.tick;
        most = omega (arith, d.claim.made);
      }

  finished_told : (ts : List Transaction) → FinishedIn jobs ts c → LastTickMade jobs order ts c
  finished_told ts f =
      let (control, bit) = both_true (eqb f.offset 0) (eqb (f.byte % 2) 1) f.runs_here in
      let at = eqb-true f.offset 0 control in
      let list = f.before ++ (writing 0 f.byte f.scratch ∷ []) in
      let s = (transacted jobs list c).card.state in
      let k = counted list in
      let left = ap no_tick_left (state_here jobs f.before f.byte f.scratch c bit) ∙ f.none_left in
      record {
        before = f.before;
        byte = f.byte;
        scratch = f.scratch;
        later = f.later;
        parts = f.parts ∙ ap (λ (n : ℕ). f.before ++ (writing n f.byte f.scratch ∷ f.later)) at;
        runs_here = bit;
        accepted_here = number_here jobs f.before f.byte f.scratch c bit ∙ f.accepted_here;
        all_made = omega (arith, k.whole, k.tick, k.most, eqb-true (total (order_of s) (count_of s) - tick_of s) 0 left);
        kept = f.kept;
      }

  told_finished : (ts : List Transaction) → LastTickMade jobs order ts c → FinishedIn jobs ts c
  told_finished ts f =
      let list = f.before ++ (writing 0 f.byte f.scratch ∷ []) in
      let s = (transacted jobs list c).card.state in
      let k = counted list in
      let none : total (order_of s) (count_of s) - tick_of s ≡ 0 = omega (arith, k.whole, k.tick, f.all_made) in
      record {
        before = f.before;
        offset = 0;
        byte = f.byte;
        scratch = f.scratch;
        later = f.later;
        parts = f.parts;
        runs_here = f.runs_here;
        accepted_here = sym (number_here jobs f.before f.byte f.scratch c f.runs_here) ∙ f.accepted_here;
        none_left =
            ap no_tick_left (sym (state_here jobs f.before f.byte f.scratch c f.runs_here))
            ∙ eq-eqb (total (order_of s) (count_of s) - tick_of s) 0 none;
        kept = f.kept;
      }

  only_finished : (ts : List Transaction) → (transacted jobs ts c).card.window.done ≡ true → FinishedIn jobs ts c
  only_finished ts done = by (done_set jobs ts c done)
    where
      by : ((false ≡ true) × (clears_done ts ≡ false)) ⊎ FinishedIn jobs ts c → FinishedIn jobs ts c
      by (inl (set, kept)) = absurd (true≢false (sym set))
      by (inr f) = f

  -- all ticks are made, so that the results' length fits the jobs: where it does not, none is
  all_closed : (ts : List Transaction) → LastTickMade jobs order ts c → AllClosed J (transacted jobs ts c).card.results
  all_closed ts f q i k hq hi hk =
      let d = demand3_window jobs order state e ts results in
      let list = started_by jobs.algebras order jobs.sizes jobs.weights state e in
      let more = made_grows jobs f.before (writing 0 f.byte f.scratch) f.later c in
      let grown : all ≤ (transacted jobs ts c).seen.made = rw f.parts (omega (arith, f.all_made)) in
      let tick = tick_within list.fits (record { job = hq; row = hi; column = hk }) in
      let fits = by (ℕ_discrete (length results) (words_of jobs.sizes)) (λ n. omega (arith, (d.claim.unfit n).0, tick)) in
      rw d.results_seen (past_word d.claim fits (record { job = hq; row = hi; column = hk; tick = omega arith }))
    where
      by : Dec (length results ≡ words_of jobs.sizes) → ((length results ≡ words_of jobs.sizes → ⊥) → ⊥) → length results ≡ words_of jobs.sizes
      by (yes same) n = same
      by (no other) n = absurd (n other)

pub done_told : DoneToldClaim
done_told jobs order state e ts results = record {
  done_only = λ done. finished_told jobs order state e results ts (only_finished jobs order state e results ts done);
  done_where = λ f. set_done jobs ts (started_card jobs order state results) (inr (told_finished jobs order state e results ts f));
  closed = λ done.
      all_closed jobs order state e results ts
      (finished_told jobs order state e results ts (only_finished jobs order state e results ts done));
}
