-- Request K10, in the words of a driver of a started array: what it may conclude from done.
use Rattle.std.specs.Prelude.{ℕ, ◌+◌, ◌-◌, ◌*◌, ◌%◌, ◌<◌, ◌≡◌, List, [], ◌∷◌, ◌++◌, Bool, true, false, eqb, length, get_or}
use Rattle.closure.specs.Elimination.{closure}
use Rattle.job_list.specs.Jobs.{Jobs, jobs_of, count, size, algebra, job_weights, place}
use Rattle.systolic.specs.Start.{start_tests}
use Rattle.registers.specs.Reading.{byte_at}
use Rattle.registers.specs.Writing.{JobsLent}
use Rattle.registers.specs.claims.Transactions.{Transaction, writing, Card, Transacted, transacted, started_card}
use Rattle.registers.specs.claims.Shown.{clears_done}

-- Since the last clearing some accepted run left the ticks made at the total: a write of CONTROL with bit 0, after which byte 6 reads 0 and the ticks
-- of all runs so far are 4NQ + 2N - 2, and no clearing after it.
pub record LastTickMade (jobs : JobsLent) (order : ℕ) (ts : List Transaction) (c : Card) : Type 0 where
  pub before : List Transaction
  pub byte : ℕ
  pub scratch : List ℕ
  pub later : List Transaction
  pub parts : ts ≡ before ++ (writing 0 byte scratch ∷ later)
  pub runs_here : eqb (byte % 2) 1 ≡ true
  pub accepted_here : byte_at (transacted jobs (before ++ (writing 0 byte scratch ∷ [])) c).card.window 6 ≡ 0
  pub all_made : (transacted jobs (before ++ (writing 0 byte scratch ∷ [])) c).seen.made ≡ 4 * order * length jobs.sizes + 2 * order - 2
  pub kept : clears_done later ≡ false

-- Every entry of every job is its elimination's word.
abbrev pub AllClosed : Jobs → List ℕ → Type 0
AllClosed J results =
    (q i k : ℕ) → q < count J → i < size J q → k < size J q
    → get_or results (place J q i k) 0 ≡ closure (algebra J q) (size J q) (job_weights J q) i k

pub record DoneTold (jobs : JobsLent) (order : ℕ) (ts : List Transaction) (c : Card) (after : Transacted) : Type 0 where
  pub done_only : after.card.window.done ≡ true → LastTickMade jobs order ts c
  pub done_where : LastTickMade jobs order ts c → after.card.window.done ≡ true
  -- where done is set, the results are there
  pub closed : after.card.window.done ≡ true → AllClosed (jobs_of jobs.algebras order jobs.sizes jobs.weights) after.card.results

abbrev pub DoneToldClaim : Type 0
DoneToldClaim =
    (jobs : JobsLent) (order : ℕ) (state : List ℕ)
    → start_tests jobs.algebras order jobs.sizes jobs.weights state ≡ 0
    → (ts : List Transaction) (results : List ℕ)
    → (let c = started_card jobs order state results in
    DoneTold jobs order ts c (transacted jobs ts c))
