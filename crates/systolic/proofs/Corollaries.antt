-- The corollaries of demand 3: an entry whose tick is past is its job's elimination word, which demand 2 describes, and which depends
-- on the job's own size and words alone.
use Prim.Native.Nat.{ℕ, ◌+◌, ◌-◌, ◌*◌, ◌<◌}
use native.Mathlib.Omega.{arith}
use mathlib.Core.Path.{◌≡◌, sym, ap, ap₂, ◌∙◌}
use mathlib.Core.List.{List}
use lib.ListN.{length}
use lib.Arith.{digits_lt}
use borrow.Author.Tests.{lt-ltb}
use Rattle.semiring.specs.declared.Algebra.{Algebra}
use Rattle.closure.specs.Table.{Holds}
use Rattle.closure.specs.Elimination.{closure, eliminated}
use Rattle.closure.proofs.Demand.{closure_best}
use Rattle.closure.proofs.Holds.{holds_row_by_row}
use Rattle.memory.proofs.Part.{part_length}
use Rattle.job_list.specs.Jobs.{Jobs, count, size, algebra, offset, words_of, part_of, job_weights, jobs_of}
use Rattle.job_list.proofs.Places.{part_within, part_word}
use Rattle.systolic.specs.claims.Demand.{Call, Runs, Claim}
use Rattle.systolic.specs.Tick.{leaves}
use Rattle.systolic.specs.claims.Corollaries.{Past, PastIs, word_at, Demand3Best, OwnWordsOnly, JobClosed}
use Rattle.systolic.proofs.Started.{started_by}
use Rattle.systolic.proofs.Demand.{start_claim}

pub past_is : PastIs
past_is J q i k after job row column tick = record { job = job; row = row; column = column; tick = tick }

-- What demand 3 says of an entry whose tick is past.
pub past_word : {J : Jobs} {begun : List ℕ} {calls : List Call} {results : List ℕ} {after : Runs} → Claim J begun calls results after
    → length results ≡ words_of J.sizes → {q i k : ℕ} → Past J q i k after
    → word_at J q i k after ≡ closure (algebra J q) (size J q) (job_weights J q) i k
past_word {J} {after} claim fits {q} {i} {k} past =
    claim.entry fits q i k past.job past.row past.column ∙ rw (lt-ltb (leaves J q i k) after.made past.tick)

pub demand3_best : Demand3Best
demand3_best algebras order sizes weights state e calls results fits q i k past =
    let J = jobs_of algebras order sizes weights in
    let list = started_by algebras order sizes weights state e in
    rw (past_word (start_claim algebras order sizes weights state e calls results) fits past)
    (closure_best (algebra J q) (size J q) (job_weights J q) (list.words q) past.row past.column)

pub own_words_only : OwnWordsOnly
own_words_only order algebras sizes weights state algebras' sizes' weights' state' e e' calls calls' results results' fits fits'
    q q' same_algebra same_size same_words i k past past' =
    let J = jobs_of algebras order sizes weights in
    let J' = jobs_of algebras' order sizes' weights' in
    past_word (start_claim algebras order sizes weights state e calls results) fits past
    ∙ ap (λ (a : Algebra). closure a (size J q) (job_weights J q) i k) same_algebra
    ∙ ap₂ (λ (n : ℕ) (w : List ℕ). closure (algebra J' q') n w i k) same_size same_words
    ∙ sym (past_word (start_claim algebras' order sizes' weights' state' e' calls' results') fits' past')

-- The part of a job all of whose entries have left.
part_closed : {J : Jobs} {begun : List ℕ} {calls : List Call} {results : List ℕ} {after : Runs} → Claim J begun calls results after
    → length results ≡ words_of J.sizes → (q : ℕ) → q < count J
    → 4 * J.order * q + 4 * J.order - 1 + 2 * (size J q - 1) < after.made
    → Holds (size J q) (closure (algebra J q) (size J q) (job_weights J q)) (part_of J.sizes after.results q)
part_closed {J} {after} claim fits q job last = record {
  size = part_length (offset J.sizes q) (size J q * size J q) after.results
      (omega (arith, part_within J.sizes q job, claim.length_kept));
  word = λ i k row column.
      part_word J.sizes after.results q (i * size J q + k) (digits_lt row column)
      ∙ past_word claim fits (record { job = job; row = row; column = column; tick = omega arith });
}

pub job_closed : JobClosed
unfolding eliminated
job_closed algebras order sizes weights state e calls results fits q job last =
    holds_row_by_row (part_closed (start_claim algebras order sizes weights state e calls results) fits q job last)
