-- Request K10: what the bytes read after a list of reads and writes, told by the same runs made directly.
use Rattle.std.specs.Prelude.{ℕ, ◌+◌, ◌*◌, ◌/◌, ◌%◌, ◌≡◌, ◌⊎◌, List, [], ◌∷◌, ◌++◌, Bool, true, false, cond, not, ◌||◌, ◌&&◌, eqb}
use Rattle.systolic.specs.State.{tick_of}
use Rattle.systolic.specs.Run.{Ran}
use Rattle.systolic.specs.claims.Demand.{Runs}
use Rattle.registers.specs.Registers.{Registers, reset, interrupt_of}
use Rattle.registers.specs.Reading.{byte_at}
use Rattle.registers.specs.Writing.{JobsLent, ran_of, no_tick_left}
use Rattle.registers.specs.claims.Transactions.{Transaction, reading, writing, Card, transacted, runs_array, allowance_after, direct}

-- The last of some numbers, and the one before them where there is none.
abbrev pub last_of : ℕ → List ℕ → ℕ
last_of before [] = before
last_of before (n ∷ ns) = last_of n ns

-- One of the runs was accepted.
abbrev pub some_accepted : List ℕ → Bool
some_accepted [] = false
some_accepted (n ∷ ns) = eqb n 0 || some_accepted ns

-- "the state's tick after the last accepted run": a refused one leaves the state as it was
abbrev pub tick_due : ℕ → Runs → ℕ
tick_due before after = cond (some_accepted after.numbers) (tick_of after.state) before

-- The allowance and the interrupt enable as they were last written.
abbrev pub allowance_held : ℕ → List Transaction → ℕ
allowance_held allowance [] = allowance
allowance_held allowance (reading offset ∷ ts) = allowance_held allowance ts
allowance_held allowance (writing offset byte scratch ∷ ts) = allowance_held (allowance_after allowance offset byte) ts

abbrev pub enable_held : Bool → List Transaction → Bool
enable_held enable [] = enable
enable_held enable (reading offset ∷ ts) = enable_held enable ts
enable_held enable (writing offset byte scratch ∷ ts) = enable_held (cond (eqb offset 7) (eqb (byte % 2) 1) enable) ts

-- "Byte 0 CONTROL: .. bit 1 clears done"
abbrev pub clears : ℕ → ℕ → Bool
clears offset byte = eqb offset 0 && eqb (byte / 2 % 2) 1

-- A write that clears done stands in the list.
abbrev pub clears_done : List Transaction → Bool
clears_done [] = false
clears_done (reading offset ∷ ts) = clears_done ts
clears_done (writing offset byte scratch ∷ ts) = clears offset byte || clears_done ts

-- The run that a write makes after a list of transactions: of what the runs in it left, by the allowance held then.
abbrev pub run_after : JobsLent → List Transaction → List ℕ → Card → Ran
run_after jobs before scratch c =
    let left = direct jobs before c in
    ran_of jobs left.state (allowance_held c.window.allowance before) scratch left.results

-- "set by an accepted run after which no tick is left": a write in the list whose run, made directly of what the runs before it left, is such a one;
-- and no clearing after it. One in the same write comes first.
pub record FinishedIn (jobs : JobsLent) (ts : List Transaction) (c : Card) : Type 0 where
  pub before : List Transaction
  pub offset : ℕ
  pub byte : ℕ
  pub scratch : List ℕ
  pub later : List Transaction
  pub parts : ts ≡ before ++ (writing offset byte scratch ∷ later)
  pub runs_here : runs_array offset byte ≡ true
  pub accepted_here : (run_after jobs before scratch c).number ≡ 0
  pub none_left : no_tick_left (run_after jobs before scratch c).state ≡ true
  pub kept : clears_done later ≡ false

-- Done: it was set and not cleared, or a run finished and it was not cleared after that.
abbrev pub DoneDue : JobsLent → List Transaction → Card → Type 0
DoneDue jobs ts c = ((c.window.done ≡ true) × (clears_done ts ≡ false)) ⊎ FinishedIn jobs ts c

-- What the window's bytes read after a list of transactions.
pub record Shown (jobs : JobsLent) (ts : List Transaction) (c : Card) (w : Registers) : Type 0 where
  -- "CONTROL .. reads as 0"
  pub control : byte_at w 0 ≡ 0
  -- "bit 1 done, .. bit 7 last run refused"
  pub status : byte_at w 1 ≡ cond w.done 2 0 + cond (eqb (last_of c.window.number (direct jobs ts c).numbers) 0) 0 128
  pub done_set : w.done ≡ true → DoneDue jobs ts c
  pub set_done : DoneDue jobs ts c → w.done ≡ true
  -- "Bytes 2 and 3 ..: the state's tick after the last accepted run, low byte first. Bytes 4 and 5: allowance, low byte first."
  pub tick_low : byte_at w 2 ≡ tick_due c.window.tick (direct jobs ts c) % 256
  pub tick_high : byte_at w 3 ≡ tick_due c.window.tick (direct jobs ts c) / 256
  pub allowance_low : byte_at w 4 ≡ allowance_held c.window.allowance ts % 256
  pub allowance_high : byte_at w 5 ≡ allowance_held c.window.allowance ts / 256
  -- "the last run's refusal number, 0 if none"
  pub number : byte_at w 6 ≡ last_of c.window.number (direct jobs ts c).numbers
  -- "bit 0 interrupt enable"
  pub enable : byte_at w 7 ≡ cond (enable_held c.window.enable ts) 1 0
  -- "The interrupt line is up exactly when done and enable are both set."
  pub interrupt : interrupt_of w ≡ (w.done && enable_held c.window.enable ts)

abbrev pub BytesShown : Type 0
BytesShown =
    (jobs : JobsLent) (ts : List Transaction) (c : Card) → Shown jobs ts c (transacted jobs ts c).card.window

-- "A new window holds 0 throughout.": whatever the state.
abbrev pub NewWindow : Type 0
NewWindow = ((offset : ℕ) → byte_at reset offset ≡ 0) × (interrupt_of reset ≡ false)
