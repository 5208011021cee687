-- What the bytes read after a list of transactions, and demand 3 through the window.
use Prim.Native.Nat.{ℕ, zero, suc, ◌+◌, ◌%◌, ◌/◌}
use mathlib.Core.Path.{◌≡◌, refl, sym, ap, ◌∙◌}
use mathlib.Core.List.{List}
use mathlib.Core.Bool.{Bool, true, false, cond, not}
use lib.Dec.{eqb}
use Rattle.systolic.specs.State.{tick_of}
use Rattle.systolic.specs.claims.Demand.{Call, Runs}
use Rattle.systolic.proofs.Demand.{demand3}
use Rattle.registers.specs.Reading.{byte_at}
use Rattle.registers.specs.Registers.{reset, bit}
use Rattle.registers.specs.Writing.{JobsLent}
use Rattle.registers.specs.claims.Transactions.{Card, transacted, calls_in, runs_of, direct, started_card, Demand3Window}
use Rattle.registers.specs.claims.Shown.{some_accepted, tick_due, BytesShown, NewWindow}
use Rattle.registers.proofs.Transactions.{same_runs, state_seen, results_seen}
use Rattle.registers.proofs.Bytes.{none_accepted, allowance_held_lem, enable_held_lem, number_shown, tick_shown}
use Rattle.registers.proofs.Done.{set_done, done_set}

both_bits : (done none : Bool) → bit done 2 + bit (not none) 128 ≡ cond done 2 0 + cond none 0 128
both_bits done true = refl
both_bits done false = refl

pub bytes_shown : BytesShown
bytes_shown jobs ts c =
    let w = (transacted jobs ts c).card.window in
    record {
      control = refl;
      status =
          both_bits w.done (eqb w.number 0)
          ∙ ap (λ (n : ℕ). cond w.done 2 0 + cond (eqb n 0) 0 128) (number_shown jobs ts c);
      done_set = done_set jobs ts c;
      set_done = set_done jobs ts c;
      tick_low = ap (λ (t : ℕ). t % 256) (tick_shown jobs ts c);
      tick_high = ap (λ (t : ℕ). t / 256) (tick_shown jobs ts c);
      allowance_low = ap (λ (t : ℕ). t % 256) (allowance_held_lem jobs ts c);
      allowance_high = ap (λ (t : ℕ). t / 256) (allowance_held_lem jobs ts c);
      number = number_shown jobs ts c;
      enable = rw (enable_held_lem jobs ts c);
      interrupt = rw (enable_held_lem jobs ts c);
    }

no_byte : (offset : ℕ) → byte_at reset offset ≡ 0
no_byte zero = refl
no_byte (suc zero) = refl
no_byte (suc (suc zero)) = refl
no_byte (suc (suc (suc zero))) = refl
no_byte (suc (suc (suc (suc zero)))) = refl
no_byte (suc (suc (suc (suc (suc zero))))) = refl
no_byte (suc (suc (suc (suc (suc (suc zero)))))) = refl
no_byte (suc (suc (suc (suc (suc (suc (suc zero))))))) = refl
no_byte (suc (suc (suc (suc (suc (suc (suc (suc n)))))))) = refl

pub new_window : NewWindow
new_window = (no_byte, refl)

-- Over a state whose tick is the ticks made, the tick shown is that too.
tick_made : (b : Bool) (jobs : JobsLent) (calls : List Call) (state results : List ℕ)
    → some_accepted (runs_of jobs calls state results).numbers ≡ b
    → tick_of (runs_of jobs calls state results).state ≡ (runs_of jobs calls state results).made
    → tick_due 0 (runs_of jobs calls state results) ≡ (runs_of jobs calls state results).made
tick_made true jobs calls state results e is = rw e is
tick_made false jobs calls state results e is = rw e (sym (none_accepted jobs calls state results e).none)

pub demand3_window : Demand3Window
demand3_window jobs order state e ts results =
    let c : Card = started_card jobs order state results in
    let held = (demand3 jobs.algebras order jobs.sizes jobs.weights state e).1 (calls_in 0 ts) results in
    let same = same_runs jobs ts c in
    record {
      claim = rw same held;
      state_seen = state_seen jobs ts c;
      results_seen = results_seen jobs ts c;
      tick_seen =
          tick_shown jobs ts c
          ∙ tick_made (some_accepted (direct jobs ts c).numbers) jobs (calls_in 0 ts) c.state results refl held.tick
          ∙ ap (λ (r : Runs). r.made) (sym same);
    }
