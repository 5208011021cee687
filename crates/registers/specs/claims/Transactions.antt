-- Request K10: "Over any list of reads and writes, ticks and results are those of the same runs made directly." A read or a write is a
-- transaction on the card's bus.
use Rattle.std.specs.Prelude.{ℕ, ◌+◌, ◌-◌, ◌*◌, ◌/◌, ◌%◌, ◌≡◌, List, [], ◌∷◌, ◌++◌, Bool, cond, ◌&&◌, eqb}
use Rattle.refusals.specs.Tests.{first}
use Rattle.job_list.specs.Jobs.{jobs_of}
use Rattle.systolic.specs.State.{tick_of}
use Rattle.systolic.specs.Start.{start_tests, state_after_start}
use Rattle.systolic.specs.claims.Demand.{Call, Runs, runs, Claim}
use Rattle.registers.specs.Registers.{Registers, reset}
use Rattle.registers.specs.Reading.{read_tests, byte_at}
use Rattle.registers.specs.Writing.{JobsLent, Lent, Written, written}

-- A read of an offset, or a write of a byte at an offset with a scratch of its own.
pub data Transaction : Type 0 where
  reading : (offset : ℕ) → Transaction
  writing : (offset byte : ℕ) (scratch : List ℕ) → Transaction

-- What stays from one transaction to the next.
pub record Card : Type 0 where
  pub window : Registers
  pub state : List ℕ
  pub results : List ℕ

-- A transaction's number (0 for none), and the byte that a read gives.
pub record Answer : Type 0 where
  pub number : ℕ
  pub byte : ℕ

-- The words lent to a write.
abbrev pub lent_by : JobsLent → List ℕ → Card → Lent
lent_by jobs scratch c = record { state = c.state; jobs = jobs; scratch = scratch; results = c.results }

abbrev pub card_after : Written → Card
card_after due = record { window = due.window; state = due.state; results = due.results }

-- What a list of transactions answers and leaves, and what is seen of its runs in the window and in the lent words.
pub record Transacted : Type 0 where
  pub answers : List Answer
  pub card : Card
  pub seen : Runs

-- "Byte 0 CONTROL: writing bit 0 runs the array"
abbrev pub runs_array : ℕ → ℕ → Bool
runs_array offset byte = eqb offset 0 && eqb (byte % 2) 1

-- Of a write that runs the array: byte 6 after it, the allowance that the window held where that is 0, by how much the state's tick went on, and the
-- scratch after it.
abbrev pub with_seen : Card → Written → Runs → Runs
with_seen c due rest = record {
  numbers = due.window.number ∷ rest.numbers;
  allowed = cond (eqb due.window.number 0) c.window.allowance 0 + rest.allowed;
  made = (tick_of due.state - tick_of c.state) + rest.made;
  state = rest.state;
  results = rest.results;
  scratches = due.scratch ∷ rest.scratches;
}

abbrev pub after_read : Answer → Transacted → Transacted
after_read answer rest = record { answers = answer ∷ rest.answers; card = rest.card; seen = rest.seen }

abbrev pub after_write : Bool → Card → Written → Transacted → Transacted
after_write ran c due rest = record {
  answers = record { number = due.number; byte = 0 } ∷ rest.answers;
  card = rest.card;
  seen = cond ran (with_seen c due rest.seen) rest.seen;
}

-- A list of transactions, each over what the one before left. A read is lent nothing, and the window by value.
unfoldable pub transacted : JobsLent → List Transaction → Card → Transacted
transacted jobs [] c = record {
  answers = [];
  card = c;
  seen = record { numbers = []; allowed = 0; made = 0; state = c.state; results = c.results; scratches = [] };
}
transacted jobs (reading offset ∷ ts) c =
    after_read (record { number = read_tests offset; byte = byte_at c.window offset }) (transacted jobs ts c)
transacted jobs (writing offset byte scratch ∷ ts) c =
    let due = written c.window offset byte (lent_by jobs scratch c) in
    after_write (runs_array offset byte) c due (transacted jobs ts (card_after due))

-- The allowance after a write, in numbers: "Bytes 4 and 5: allowance, low byte first."
abbrev pub allowance_after : ℕ → ℕ → ℕ → ℕ
allowance_after allowance offset byte =
    first allowance
    ((eqb offset 4, byte + 256 * (allowance / 256))
    ∷ (eqb offset 5, allowance % 256 + 256 * byte)
    ∷ [])

-- "the same runs": of each write that runs the array, by the allowance that was written before it
unfoldable pub calls_in : ℕ → List Transaction → List Call
calls_in allowance [] = []
calls_in allowance (reading offset ∷ ts) = calls_in allowance ts
calls_in allowance (writing offset byte scratch ∷ ts) =
    let later = calls_in (allowance_after allowance offset byte) ts in
    cond (runs_array offset byte) (record { allowance = allowance; scratch = scratch } ∷ later) later

abbrev pub runs_of : JobsLent → List Call → List ℕ → List ℕ → Runs
runs_of jobs calls state results = runs jobs.algebras jobs.sizes jobs.weights calls state results

-- The same runs made directly, over the same words.
abbrev pub direct : JobsLent → List Transaction → Card → Runs
direct jobs ts c = runs_of jobs (calls_in c.window.allowance ts) c.state c.results

-- Of any window, state and results.
abbrev pub SameRuns : Type 0
SameRuns = (jobs : JobsLent) (ts : List Transaction) (c : Card) → (transacted jobs ts c).seen ≡ direct jobs ts c

abbrev pub writes_of : List Transaction → List Transaction
writes_of [] = []
writes_of (reading offset ∷ ts) = writes_of ts
writes_of (writing offset byte scratch ∷ ts) = writing offset byte scratch ∷ writes_of ts

-- Without its reads a list leaves the same.
abbrev pub ReadsChangeNothing : Type 0
ReadsChangeNothing =
    (jobs : JobsLent) (ts : List Transaction) (c : Card)
    → ((transacted jobs (writes_of ts) c).card ≡ (transacted jobs ts c).card)
    × ((transacted jobs (writes_of ts) c).seen ≡ (transacted jobs ts c).seen)

-- What a read answers within a list: the byte of the window that the transactions before it left.
abbrev pub ReadsAnswered : Type 0
ReadsAnswered =
    (jobs : JobsLent) (before : List Transaction) (offset : ℕ) (later : List Transaction) (c : Card)
    → (let then = transacted jobs before c in
    (transacted jobs (before ++ (reading offset ∷ later)) c).answers
    ≡ then.answers
    ++ (record { number = read_tests offset; byte = byte_at then.card.window offset } ∷ (transacted jobs later then.card).answers))

-- A new window over the state that a start leaves, and results of any words.
abbrev pub started_card : JobsLent → ℕ → List ℕ → List ℕ → Card
started_card jobs order state results =
    record { window = reset; state = state_after_start jobs.algebras order jobs.sizes jobs.weights state; results = results }

-- Demand 3 of what is seen through the window, and of the state and the results that are left.
pub record Demanded (jobs : JobsLent) (order : ℕ) (ts : List Transaction) (c : Card) (after : Transacted) : Type 0 where
  pub claim : Claim (jobs_of jobs.algebras order jobs.sizes jobs.weights) c.state (calls_in 0 ts) c.results after.seen
  pub state_seen : after.card.state ≡ after.seen.state
  pub results_seen : after.card.results ≡ after.seen.results
  -- bytes 2 and 3
  pub tick_seen : after.card.window.tick ≡ after.seen.made

abbrev pub Demand3Window : Type 0
Demand3Window =
    (jobs : JobsLent) (order : ℕ) (state : List ℕ)
    → start_tests jobs.algebras order jobs.sizes jobs.weights state ≡ 0
    → (ts : List Transaction) (results : List ℕ)
    → (let c = started_card jobs order state results in
    Demanded jobs order ts c (transacted jobs ts c))
