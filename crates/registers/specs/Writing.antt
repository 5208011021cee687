-- Request K10: what a write does to the window, and the run that a write of CONTROL makes.
use Rattle.std.specs.Prelude.{ℕ, ◌-◌, ◌/◌, ◌%◌, ◌≡◌, List, [], ◌∷◌, Bool, false, cond, ◌||◌, ◌&&◌, eqb, ltb}
use Rattle.refusals.specs.Tests.{first, one_of}
use Rattle.systolic.specs.State.{order_of, count_of, tick_of, total}
use Rattle.systolic.specs.Run.{Ran, ran}
use Rattle.registers.specs.Registers.{Registers, low_byte, high_byte, word_of}

-- The jobs lent to a run.
pub record JobsLent : Type 0 where
  pub algebras : List ℕ
  pub sizes : List ℕ
  pub weights : List ℕ

-- What is lent to a write: the words of a run.
pub record Lent : Type 0 where
  pub state : List ℕ
  pub jobs : JobsLent
  pub scratch : List ℕ
  pub results : List ℕ

abbrev pub lent : List ℕ → List ℕ → List ℕ → List ℕ → List ℕ → List ℕ → Lent
lent state algebras sizes weights scratch results = record {
  state = state;
  jobs = record { algebras = algebras; sizes = sizes; weights = weights };
  scratch = scratch;
  results = results;
}

-- A run of these jobs, made directly.
abbrev pub ran_of : JobsLent → List ℕ → ℕ → List ℕ → List ℕ → Ran
ran_of jobs state allowance scratch results = ran state jobs.algebras jobs.sizes jobs.weights allowance scratch results

abbrev pub ran_with : ℕ → Lent → Ran
ran_with allowance m = ran_of m.jobs m.state allowance m.scratch m.results

abbrev pub accepted : Ran → Bool
accepted one = eqb one.number 0

-- "after which no tick is left"
abbrev pub no_tick_left : List ℕ → Bool
no_tick_left state = eqb (total (order_of state) (count_of state) - tick_of state) 0

-- The window after a run.
abbrev pub shown : Registers → Ran → Registers
shown w one = record {
  -- "done, set by an accepted run after which no tick is left and kept by any other"
  done = w.done || (accepted one && no_tick_left one.state);
  -- "the state's tick after the last accepted run"
  tick = cond (accepted one) (tick_of one.state) w.tick;
  allowance = w.allowance;
  -- "the last run's refusal number, 0 if none"
  number = one.number;
  enable = w.enable;
}

-- Bits 0 and 1 of a byte that is written: "Other bits .. are ignored in a write."
abbrev pub bit0 : ℕ → Bool
bit0 byte = eqb (byte % 2) 1

abbrev pub bit1 : ℕ → Bool
bit1 byte = eqb (byte / 2 % 2) 1

-- "bit 1 clears done"
abbrev pub cleared_by : Registers → ℕ → Registers
cleared_by w byte = record {
  done = cond (bit1 byte) false w.done;
  tick = w.tick;
  allowance = w.allowance;
  number = w.number;
  enable = w.enable;
}

abbrev pub with_allowance : Registers → ℕ → Registers
with_allowance w allowance = record { done = w.done; tick = w.tick; allowance = allowance; number = w.number; enable = w.enable }

abbrev pub with_enable : Registers → Bool → Registers
with_enable w enable = record { done = w.done; tick = w.tick; allowance = w.allowance; number = w.number; enable = enable }

-- What a write answers and leaves: its number (0 for none), the window and every lent word that can change.
pub record Written : Type 0 where
  pub number : ℕ
  pub window : Registers
  pub state : List ℕ
  pub results : List ℕ
  pub scratch : List ℕ

-- A write that runs nothing.
abbrev pub only : ℕ → Registers → Lent → Written
only number w m = record { number = number; window = w; state = m.state; results = m.results; scratch = m.scratch }

-- A write that runs the array by the allowance: "A write whose run is refused is itself accepted and shows it in bytes 1 and 6."
unfoldable pub run_shown : Registers → Lent → Written
run_shown w m =
    let one = ran_with w.allowance m in
    record { number = 0; window = shown w one; state = one.state; results = one.results; scratch = one.scratch }

-- "writing bit 0 runs the array by the allowance"
unfoldable pub run_by : Registers → ℕ → Lent → Written
run_by w byte m = cond (bit0 byte) (run_shown w m) (only 0 w m)

-- ".. bit 1 clears done, and if both are set the clearing comes first"
unfoldable pub controlled : Registers → ℕ → Lent → Written
controlled w byte m = run_by (cleared_by w byte) byte m

-- Bytes 1, 2, 3 and 6: "read only"
abbrev pub read_only : ℕ → Bool
read_only offset = one_of (eqb offset 1 ∷ eqb offset 2 ∷ eqb offset 3 ∷ eqb offset 6 ∷ [])

-- The other bytes: 0 CONTROL, "4 and 5: allowance, low byte first", "7: bit 0 interrupt enable"
abbrev pub stored : Registers → ℕ → ℕ → Lent → Written
stored w offset byte m =
    first (only 0 w m)
    ((eqb offset 0, controlled w byte m)
    ∷ (eqb offset 4, only 0 (with_allowance w (word_of byte (high_byte w.allowance))) m)
    ∷ (eqb offset 5, only 0 (with_allowance w (word_of (low_byte w.allowance) byte)) m)
    ∷ (eqb offset 7, only 0 (with_enable w (bit0 byte)) m)
    ∷ [])

-- "An offset above 7 is 25, and a write to a read-only byte is 26, tested after it."
unfoldable pub written : Registers → ℕ → ℕ → Lent → Written
written w offset byte m =
    first (stored w offset byte m)
    ((ltb 7 offset, only 25 w m)
    ∷ (read_only offset, only 26 w m)
    ∷ [])

-- Number, window and lent words after a write are those of the definition.
pub record WriteLeft (due : Written) (number : ℕ) (w : Registers) (state scratch results : List ℕ) : Type 0 where
  pub outcome : number ≡ due.number
  pub window_after_lem : w ≡ due.window
  pub state_after : state ≡ due.state
  pub scratch_after : scratch ≡ due.scratch
  pub results_after : results ≡ due.results
