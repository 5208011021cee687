-- Done: set by a run that leaves no tick, until it is cleared.
use Prim.Native.Nat.{ℕ}
use mathlib.Core.Path.{◌≡◌, refl, sym, ap, ◌∙◌}
use mathlib.Core.Logic.{◌⊎◌, inl, inr}
use mathlib.Core.List.{List, [], ◌∷◌, ◌++◌}
use mathlib.Core.Bool.{Bool, true, false, cond, ◌||◌, ◌&&◌, true≢false}
use lib.Dec.{eqb}
use borrow.Author.Tests.{eqb-true, eq-eqb}
use Rattle.memory.proofs.Any.{both_false, both_true}
use Rattle.systolic.specs.Run.{Ran}
use Rattle.systolic.specs.claims.Demand.{Runs, runs}
use Rattle.registers.specs.Registers.{Registers}
use Rattle.registers.specs.Writing.{JobsLent, bit1, no_tick_left, accepted}
use Rattle.registers.specs.claims.Transactions.{Transaction, reading, writing, Card, card_after, transacted, runs_array, calls_in, direct}
use Rattle.registers.specs.claims.Shown.{clears, clears_done, run_after, FinishedIn, DoneDue}
use Rattle.registers.proofs.Steps.{due_of, one_of, stepped, ran_window, direct_running, direct_quiet}

or-true : (b : Bool) → (b || true) ≡ true
or-true true = refl
or-true false = refl

or_cases : (b c : Bool) → (b || c) ≡ true → (b ≡ true) ⊎ (c ≡ true)
or_cases true c e = inl refl
or_cases false c e = inr e

cond_kept : (b d : Bool) → cond b false d ≡ true → (b ≡ false) × (d ≡ true)
cond_kept true d e = absurd (true≢false (sym e))
cond_kept false d e = (refl, e)

module _ (jobs : JobsLent) where
  abbrev done_after : List Transaction → Card → Bool
  done_after ts c = (transacted jobs ts c).card.window.done

  module _ (c : Card) (offset byte : ℕ) (scratch : List ℕ) where
    abbrev next : Card
    next = card_after (due_of jobs c offset byte scratch)

    abbrev one : Ran
    one = one_of jobs c offset byte scratch

    -- the state and the results that the runs leave, one write later
    state_by : (b : Bool) (before : List Transaction) → runs_array offset byte ≡ b
        → (direct jobs (writing offset byte scratch ∷ before) c).state ≡ (direct jobs before next).state
    state_by true before e = ap (λ (r : Runs). r.state) (direct_running jobs c offset byte scratch before e)
    state_by false before e = ap (λ (r : Runs). r.state) (direct_quiet jobs c offset byte scratch before e)

    results_by : (b : Bool) (before : List Transaction) → runs_array offset byte ≡ b
        → (direct jobs (writing offset byte scratch ∷ before) c).results ≡ (direct jobs before next).results
    results_by true before e = ap (λ (r : Runs). r.results) (direct_running jobs c offset byte scratch before e)
    results_by false before e = ap (λ (r : Runs). r.results) (direct_quiet jobs c offset byte scratch before e)

    after_write : (before : List Transaction) (own : List ℕ)
        → run_after jobs (writing offset byte scratch ∷ before) own c ≡ run_after jobs before own next
    after_write before own =
        rw (state_by (runs_array offset byte) before refl, results_by (runs_array offset byte) before refl, (stepped jobs c offset byte scratch).allowance)

    -- done after one write
    set_by_run : runs_array offset byte ≡ true → one.number ≡ 0 → no_tick_left one.state ≡ true → next.window.done ≡ true
    set_by_run e number none =
        ap (λ (w : Registers). w.done) (ran_window jobs c offset byte scratch e)
        ∙ rw (eq-eqb one.number 0 number, none) (or-true (cond (bit1 byte) false c.window.done))

    kept_by : (b : Bool) → runs_array offset byte ≡ b → c.window.done ≡ true → clears offset byte ≡ false → next.window.done ≡ true
    kept_by true e done k =
        let uncleared : bit1 byte ≡ false = rw ((stepped jobs c offset byte scratch).running e).at_control at k in
        ap (λ (w : Registers). w.done) (ran_window jobs c offset byte scratch e) ∙ rw (uncleared, done)
    kept_by false e done k = ((stepped jobs c offset byte scratch).quiet e).done ∙ rw (k, done)

    -- and back
    abbrev From : Type 0
    From =
        ((c.window.done ≡ true) × (clears offset byte ≡ false))
        ⊎ ((runs_array offset byte ≡ true) × (one.number ≡ 0) × (no_tick_left one.state ≡ true))

    from_run : runs_array offset byte ≡ true
        → (cond (bit1 byte) false c.window.done ≡ true) ⊎ ((accepted one && no_tick_left one.state) ≡ true) → From
    from_run e (inl x) =
        let (uncleared, done) = cond_kept (bit1 byte) c.window.done x in
        inl (done, rw ((stepped jobs c offset byte scratch).running e).at_control uncleared)
    from_run e (inr y) =
        let (number, none) = both_true (accepted one) (no_tick_left one.state) y in
        inr (e, eqb-true one.number 0 number, none)

    from_by : (b : Bool) → runs_array offset byte ≡ b → next.window.done ≡ true → From
    from_by true e done =
        from_run e
        (or_cases (cond (bit1 byte) false c.window.done) (accepted one && no_tick_left one.state)
        (sym (ap (λ (w : Registers). w.done) (ran_window jobs c offset byte scratch e)) ∙ done))
    from_by false e done =
        let (uncleared, before) = cond_kept (clears offset byte) c.window.done
        (sym ((stepped jobs c offset byte scratch).quiet e).done ∙ done) in
        inl (before, uncleared)

  -- done stays until it is cleared
  stays : (ts : List Transaction) (c : Card) → c.window.done ≡ true → clears_done ts ≡ false → done_after ts c ≡ true
  unfolding transacted
  stays [] c done k = done
  stays (reading offset ∷ ts) c done k = stays ts c done k
  stays (writing offset byte scratch ∷ ts) c done k =
      let (here, later) = both_false (clears offset byte) (clears_done ts) k in
      stays ts (next c offset byte scratch) (kept_by c offset byte scratch (runs_array offset byte) refl done here) later

  module _ (offset byte : ℕ) (scratch : List ℕ) (later : List Transaction) (e : runs_array offset byte ≡ true) (kept : clears_done later ≡ false) where
    set_later : (before : List Transaction) (c : Card) → (run_after jobs before scratch c).number ≡ 0
        → no_tick_left (run_after jobs before scratch c).state ≡ true
        → done_after (before ++ (writing offset byte scratch ∷ later)) c ≡ true
    unfolding transacted calls_in runs
    set_later [] c number none = stays later (next c offset byte scratch) (set_by_run c offset byte scratch e number none) kept
    set_later (reading at ∷ before) c number none = set_later before c number none
    set_later (writing at b own ∷ before) c number none =
        let same = after_write c at b own before scratch in
        set_later before (next c at b own) (ap (λ (r : Ran). r.number) (sym same) ∙ number)
        (ap (λ (r : Ran). no_tick_left r.state) (sym same) ∙ none)

  pub set_done : (ts : List Transaction) (c : Card) → DoneDue jobs ts c → done_after ts c ≡ true
  set_done ts c (inl (done, kept)) = stays ts c done kept
  set_done ts c (inr f) =
      rw f.parts (set_later f.offset f.byte f.scratch f.later f.runs_here f.kept f.before c f.accepted_here f.none_left)

  -- a run that finished in the rest of a list
  read_before : (offset : ℕ) (ts : List Transaction) (c : Card) → FinishedIn jobs ts c → FinishedIn jobs (reading offset ∷ ts) c
  unfolding calls_in
  read_before offset ts c f = record {
    before = reading offset ∷ f.before;
    offset = f.offset;
    byte = f.byte;
    scratch = f.scratch;
    later = f.later;
    parts = ap (λ (l : List Transaction). reading offset ∷ l) f.parts;
    runs_here = f.runs_here;
    accepted_here = f.accepted_here;
    none_left = f.none_left;
    kept = f.kept;
  }

  write_before : (offset byte : ℕ) (scratch : List ℕ) (ts : List Transaction) (c : Card)
      → FinishedIn jobs ts (next c offset byte scratch) → FinishedIn jobs (writing offset byte scratch ∷ ts) c
  write_before offset byte scratch ts c f =
      let same = after_write c offset byte scratch f.before f.scratch in
      record {
        before = writing offset byte scratch ∷ f.before;
        offset = f.offset;
        byte = f.byte;
        scratch = f.scratch;
        later = f.later;
        parts = ap (λ (l : List Transaction). writing offset byte scratch ∷ l) f.parts;
        runs_here = f.runs_here;
        accepted_here = ap (λ (r : Ran). r.number) same ∙ f.accepted_here;
        none_left = ap (λ (r : Ran). no_tick_left r.state) same ∙ f.none_left;
        kept = f.kept;
      }

  run_here : (offset byte : ℕ) (scratch : List ℕ) (ts : List Transaction) (c : Card) → clears_done ts ≡ false
      → From c offset byte scratch → DoneDue jobs (writing offset byte scratch ∷ ts) c
  unfolding calls_in runs
  run_here offset byte scratch ts c kept (inl (done, uncleared)) = inl (done, rw (uncleared, kept))
  run_here offset byte scratch ts c kept (inr (e, number, none)) = inr (record {
    before = [];
    offset = offset;
    byte = byte;
    scratch = scratch;
    later = ts;
    parts = refl;
    runs_here = e;
    accepted_here = number;
    none_left = none;
    kept = kept;
  })

  pub done_set : (ts : List Transaction) (c : Card) → done_after ts c ≡ true → DoneDue jobs ts c
  unfolding transacted
  done_set [] c done = inl (done, refl)
  done_set (reading offset ∷ ts) c done = after_read (done_set ts c done)
    where
      after_read : DoneDue jobs ts c → DoneDue jobs (reading offset ∷ ts) c
      after_read (inl x) = inl x
      after_read (inr f) = inr (read_before offset ts c f)
  done_set (writing offset byte scratch ∷ ts) c done = after_that (done_set ts (next c offset byte scratch) done)
    where
      after_that : DoneDue jobs ts (next c offset byte scratch) → DoneDue jobs (writing offset byte scratch ∷ ts) c
      after_that (inl (d, kept)) = run_here offset byte scratch ts c kept (from_by c offset byte scratch (runs_array offset byte) refl d)
      after_that (inr f) = inr (write_before offset byte scratch ts c f)
