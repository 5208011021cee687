-- What the window holds after a list of transactions, told by the runs made directly.
use Prim.Native.Nat.{ℕ}
use native.Mathlib.Omega.{arith}
use mathlib.Core.Path.{◌≡◌, refl, sym, ap, ◌∙◌}
use mathlib.Core.List.{List, [], ◌∷◌}
use mathlib.Core.Bool.{Bool, true, false, cond, ◌||◌}
use lib.Dec.{eqb}
use borrow.Author.Tests.{eqb-false}
use Rattle.memory.proofs.Any.{both_false}
use Rattle.systolic.specs.State.{tick_of}
use Rattle.systolic.specs.Run.{Ran}
use Rattle.systolic.specs.claims.Demand.{Call, Runs, runs}
use Rattle.systolic.proofs.Refusals.{run_kept}
use Rattle.registers.specs.Registers.{Registers}
use Rattle.registers.specs.Writing.{JobsLent, ran_of}
use Rattle.registers.specs.claims.Transactions.{Transaction, reading, writing, Card, card_after, transacted, runs_array, calls_in, runs_of, direct}
use Rattle.registers.specs.claims.Shown.{last_of, some_accepted, tick_due, allowance_held, enable_held}
use Rattle.registers.proofs.Steps.{due_of, one_of, stepped, ran_state, ran_window, direct_running, direct_quiet}

-- Runs of which none was accepted leave the state as it was.
pub record NoneMade (state results : List ℕ) (after : Runs) : Type 0 where
  pub none : after.made ≡ 0
  pub kept : after.state ≡ state

module _ (jobs : JobsLent) where
  pub none_accepted : (calls : List Call) (state results : List ℕ) → some_accepted (runs_of jobs calls state results).numbers ≡ false
      → NoneMade state results (runs_of jobs calls state results)
  unfolding runs
  none_accepted [] state results e = record { none = refl; kept = refl }
  none_accepted (call ∷ calls) state results e =
      let one = ran_of jobs state call.allowance call.scratch results in
      let rest = runs_of jobs calls one.state one.results in
      let (refused, later) = both_false (eqb one.number 0) (some_accepted rest.numbers) e in
      let k = run_kept state jobs.algebras jobs.sizes jobs.weights call.allowance call.scratch results (eqb-false one.number 0 refused) in
      let none = none_accepted calls one.state one.results later in
      record { none = omega (arith, k.none_made, none.none); kept = none.kept ∙ k.state_kept }

  abbrev pub window_after : List Transaction → Card → Registers
  window_after ts c = (transacted jobs ts c).card.window

  pub allowance_held_lem : (ts : List Transaction) (c : Card) → (window_after ts c).allowance ≡ allowance_held c.window.allowance ts
  unfolding transacted
  allowance_held_lem [] c = refl
  allowance_held_lem (reading offset ∷ ts) c = allowance_held_lem ts c
  allowance_held_lem (writing offset byte scratch ∷ ts) c =
      allowance_held_lem ts (card_after (due_of jobs c offset byte scratch))
      ∙ ap (λ (a : ℕ). allowance_held a ts) (stepped jobs c offset byte scratch).allowance

  pub enable_held_lem : (ts : List Transaction) (c : Card) → (window_after ts c).enable ≡ enable_held c.window.enable ts
  unfolding transacted
  enable_held_lem [] c = refl
  enable_held_lem (reading offset ∷ ts) c = enable_held_lem ts c
  enable_held_lem (writing offset byte scratch ∷ ts) c =
      enable_held_lem ts (card_after (due_of jobs c offset byte scratch))
      ∙ ap (λ (b : Bool). enable_held b ts) (stepped jobs c offset byte scratch).enable

  -- the number after one more write, from that after the rest
  module _ (ts : List Transaction) (c : Card) (offset byte : ℕ) (scratch : List ℕ) where
    abbrev next : Card
    next = card_after (due_of jobs c offset byte scratch)

    abbrev one : Ran
    one = one_of jobs c offset byte scratch

    abbrev whole : Runs
    whole = direct jobs (writing offset byte scratch ∷ ts) c

    abbrev rest : Runs
    rest = direct jobs ts next

    number_by : (b : Bool) → runs_array offset byte ≡ b → last_of next.window.number rest.numbers ≡ last_of c.window.number whole.numbers
    number_by true e =
        ap (λ (w : Registers). last_of w.number rest.numbers) (ran_window jobs c offset byte scratch e)
        ∙ sym (ap (λ (r : Runs). last_of c.window.number r.numbers) (direct_running jobs c offset byte scratch ts e))
    number_by false e =
        ap (λ (n : ℕ). last_of n rest.numbers) ((stepped jobs c offset byte scratch).quiet e).number
        ∙ sym (ap (λ (r : Runs). last_of c.window.number r.numbers) (direct_quiet jobs c offset byte scratch ts e))

    tick_cases : (later now : Bool) (before : ℕ) → some_accepted rest.numbers ≡ later → eqb one.number 0 ≡ now → next.state ≡ one.state
        → cond later (tick_of rest.state) (cond now (tick_of one.state) before) ≡ cond (now || later) (tick_of rest.state) before
    tick_cases true true before x y s = refl
    tick_cases true false before x y s = refl
    tick_cases false true before x y s =
        let k = none_accepted (calls_in next.window.allowance ts) next.state next.results x in
        ap (λ (l : List ℕ). tick_of l) (sym (k.kept ∙ s))
    tick_cases false false before x y s = refl

    tick_by : (b : Bool) → runs_array offset byte ≡ b → tick_due next.window.tick rest ≡ tick_due c.window.tick whole
    tick_by true e =
        ap (λ (w : Registers). tick_due w.tick rest) (ran_window jobs c offset byte scratch e)
        ∙ tick_cases (some_accepted rest.numbers) (eqb one.number 0) c.window.tick refl refl (ran_state jobs c offset byte scratch e)
        ∙ sym (ap (λ (r : Runs). tick_due c.window.tick r) (direct_running jobs c offset byte scratch ts e))
    tick_by false e =
        ap (λ (t : ℕ). tick_due t rest) ((stepped jobs c offset byte scratch).quiet e).tick
        ∙ sym (ap (λ (r : Runs). tick_due c.window.tick r) (direct_quiet jobs c offset byte scratch ts e))

  pub number_shown : (ts : List Transaction) (c : Card) → (window_after ts c).number ≡ last_of c.window.number (direct jobs ts c).numbers
  unfolding transacted calls_in runs
  number_shown [] c = refl
  number_shown (reading offset ∷ ts) c = number_shown ts c
  number_shown (writing offset byte scratch ∷ ts) c =
      number_shown ts (card_after (due_of jobs c offset byte scratch)) ∙ number_by ts c offset byte scratch (runs_array offset byte) refl

  pub tick_shown : (ts : List Transaction) (c : Card) → (window_after ts c).tick ≡ tick_due c.window.tick (direct jobs ts c)
  unfolding transacted calls_in runs
  tick_shown [] c = refl
  tick_shown (reading offset ∷ ts) c = tick_shown ts c
  tick_shown (writing offset byte scratch ∷ ts) c =
      tick_shown ts (card_after (due_of jobs c offset byte scratch)) ∙ tick_by ts c offset byte scratch (runs_array offset byte) refl
