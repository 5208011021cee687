-- One write: what it does to each part of the window, and what the runs made directly are without it.
use Prim.Native.Nat.{ℕ}
use mathlib.Core.Path.{◌≡◌, refl, sym, ap, ◌∙◌}
use mathlib.Core.List.{List, ◌∷◌}
use mathlib.Core.Bool.{true, false, cond, ◌&&◌, true≢false}
use lib.Dec.{eqb}
use Rattle.systolic.specs.Run.{Ran}
use Rattle.systolic.specs.claims.Demand.{Call, runs}
use Rattle.registers.specs.Registers.{Registers}
use Rattle.registers.specs.Writing.{JobsLent, Lent, ran_with, bit0, bit1, cleared_by, shown, run_shown, Written, written}
use Rattle.registers.specs.claims.Transactions.{Transaction, writing, Card, lent_by, card_after, runs_array, allowance_after, calls_in, direct}
use Rattle.registers.specs.claims.Shown.{clears}
use Rattle.registers.proofs.Transactions.{with_run, runs_cons}
use Rattle.registers.proofs.Views as views

-- A write that runs the array.
pub record Running (w : Registers) (offset byte : ℕ) (m : Lent) (due : Written) : Type 0 where
  pub at_control : eqb offset 0 ≡ true
  pub is : due ≡ run_shown (cleared_by w byte) m

-- A write that does not.
pub record Quiet (w : Registers) (offset byte : ℕ) (m : Lent) (due : Written) : Type 0 where
  pub state : due.state ≡ m.state
  pub results : due.results ≡ m.results
  pub tick : due.window.tick ≡ w.tick
  pub number : due.window.number ≡ w.number
  pub done : due.window.done ≡ cond (clears offset byte) false w.done

pub record Stepped (w : Registers) (offset byte : ℕ) (m : Lent) (due : Written) : Type 0 where
  pub allowance : due.window.allowance ≡ allowance_after w.allowance offset byte
  pub enable : due.window.enable ≡ cond (eqb offset 7) (bit0 byte) w.enable
  pub running : runs_array offset byte ≡ true → Running w offset byte m due
  pub quiet : runs_array offset byte ≡ false → Quiet w offset byte m due

by_view : (w : Registers) (byte : ℕ) (m : Lent) (offset : ℕ) (due : Written) → views.View w byte m offset due → Stepped w offset byte m due
unfolding run_shown
by_view w byte m offset due (views.runs e) = record {
  allowance = refl;
  enable = refl;
  running = λ r. record { at_control = refl; is = refl };
  quiet = λ q. absurd (true≢false (sym e ∙ q));
}
by_view w byte m offset due (views.clears e) = record {
  allowance = refl;
  enable = refl;
  running = λ r. absurd (true≢false (sym r ∙ e));
  quiet = λ q. record { state = refl; results = refl; tick = refl; number = refl; done = refl };
}
by_view w byte m offset due views.low = record {
  allowance = refl;
  enable = refl;
  running = λ r. absurd (true≢false (sym r));
  quiet = λ q. record { state = refl; results = refl; tick = refl; number = refl; done = refl };
}
by_view w byte m offset due views.high = record {
  allowance = refl;
  enable = refl;
  running = λ r. absurd (true≢false (sym r));
  quiet = λ q. record { state = refl; results = refl; tick = refl; number = refl; done = refl };
}
by_view w byte m offset due views.enables = record {
  allowance = refl;
  enable = refl;
  running = λ r. absurd (true≢false (sym r));
  quiet = λ q. record { state = refl; results = refl; tick = refl; number = refl; done = refl };
}
by_view w byte m offset due (views.refuses at number r) = record {
  allowance = rw (r.not_low, r.not_high);
  enable = rw r.not_enable;
  running = λ e. absurd (true≢false (sym (rw r.not_control at e)));
  quiet = λ q. record { state = refl; results = refl; tick = refl; number = refl; done = rw r.not_control };
}

module _ (jobs : JobsLent) (c : Card) (offset byte : ℕ) (scratch : List ℕ) where
  abbrev m : Lent
  m = lent_by jobs scratch c

  abbrev pub due_of : Written
  due_of = written c.window offset byte m

  abbrev pub one_of : Ran
  one_of = ran_with c.window.allowance m

  abbrev pub call_of : Call
  call_of = record { allowance = c.window.allowance; scratch = scratch }

  pub stepped : Stepped c.window offset byte m due_of
  stepped = by_view c.window byte m offset due_of (views.view c.window byte m offset)

  -- what a run leaves
  pub ran_state : runs_array offset byte ≡ true → due_of.state ≡ one_of.state
  unfolding run_shown
  ran_state e = ap (λ (d : Written). d.state) (stepped.running e).is

  pub ran_results : runs_array offset byte ≡ true → due_of.results ≡ one_of.results
  unfolding run_shown
  ran_results e = ap (λ (d : Written). d.results) (stepped.running e).is

  pub ran_window : runs_array offset byte ≡ true → due_of.window ≡ shown (cleared_by c.window byte) one_of
  unfolding run_shown
  ran_window e = ap (λ (d : Written). d.window) (stepped.running e).is

  module _ (ts : List Transaction) where
    pub direct_running : runs_array offset byte ≡ true
        → direct jobs (writing offset byte scratch ∷ ts) c ≡ with_run call_of one_of (direct jobs ts (card_after due_of))
    unfolding calls_in
    direct_running e =
        let first = runs_cons jobs call_of (calls_in (allowance_after c.window.allowance offset byte) ts) c.state c.results in
        rw (e, first, ← stepped.allowance, ran_state e, ran_results e)

    pub direct_quiet : runs_array offset byte ≡ false
        → direct jobs (writing offset byte scratch ∷ ts) c ≡ direct jobs ts (card_after due_of)
    unfolding calls_in
    direct_quiet e = rw (e, (stepped.quiet e).state, (stepped.quiet e).results, stepped.allowance)
