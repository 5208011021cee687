-- The sheet of an accepted text shows the elimination's words, each on the tick on which it leaves.
use Prim.Native.Nat.{ℕ, ◌<◌}
use native.Mathlib.Omega.{arith}
use mathlib.Core.Path.{◌≡◌, refl, ap, ◌∙◌}
use mathlib.Core.List.{List, [], ◌∷◌, ◌++◌}
use lib.ListN.{length, replicate, length-replicate}
use native.Mathlib.Decide.{dec_lt}
use borrow.Author.Tests.{le-ltb}
use Rattle.closure.proofs.Demand.{closure_best}
use Rattle.job_list.specs.Jobs.{Jobs, count, size, algebra, words_of, job_weights, jobs_of, Entry}
use Rattle.systolic.specs.State.{state_length, scratch_length, total}
use Rattle.systolic.specs.Run.{Ran}
use Rattle.systolic.specs.claims.Demand.{Runs, runs}
use Rattle.systolic.specs.Tick.{leaves}
use Rattle.systolic.proofs.Demand.{start_claim}
use Rattle.systolic.proofs.Totals.{tick_within}
use Rattle.systolic.proofs.Corollaries.{past_word}
use Rattle.job_list.specs.Fits.{ListAccepted}
use Rattle.job_list.proofs.Fits.{algebra_named_lem}
use Rattle.job_reading.proofs.Whole.{whole}
use Rattle.text.specs.Joined.{joined}
use Rattle.text.proofs.Joined.{joined_same}
use Rattle.sheet_form.specs.Lines.{Words, jobs_line, entry_line, row_lines, sheet}
use Rattle.sheet_form.specs.Sheet.{started_state, whole_run, result_words, printed}
use Rattle.sheet_form.specs.claims.Demand.{closure_words, DemandSheet}
use Rattle.sheet_form.proofs.Rows.{row_empty, row_line}
use Rattle.sheet_form.proofs.WholeRun.{begun_tests, whole_made}

-- A sheet reads no words but those of the jobs' entries.
module _ (J : Jobs) (word word' : Words) (same : (q i k : ℕ) → Entry J q i k → word q i k ≡ word' q i k) where
  entry_same : (t i q k : ℕ) → q < count J → k < size J q → entry_line J word t i q k ≡ entry_line J word' t i q k
  entry_same t i q k hq hk = by (dec_lt i (size J q))
    where
      by : Dec (i < size J q) → entry_line J word t i q k ≡ entry_line J word' t i q k
      by (yes h) = rw (same q i k (record { job = hq; row = h; column = hk }))
      by (no h) = rw (le-ltb i (size J q) (omega arith))

  sheet_same : (ticks : ℕ) → sheet J word ticks ≡ sheet J word' ticks
  unfolding sheet
  sheet_same ticks =
      ap (λ (l : List ℕ). jobs_line (count J) ticks ++ l)
      (joined_same ticks (λ t. joined J.order (row_lines J word t)) (λ t. joined J.order (row_lines J word' t))
      (λ t ht.
      joined_same J.order (row_lines J word t) (row_lines J word' t)
      (λ i hi.
      joined_same (count J) (λ q. joined (size J q) (entry_line J word t i q)) (λ q. joined (size J q) (entry_line J word' t i q))
      (λ q hq. joined_same (size J q) (entry_line J word t i q) (entry_line J word' t i q) (λ k hk. entry_same t i q k hq hk)))))

-- The whole run is a list of one run.
module _ {algebras : List ℕ} {order : ℕ} {sizes weights : List ℕ} (list : ListAccepted (jobs_of algebras order sizes weights)) where
  abbrev J : Jobs
  J = jobs_of algebras order sizes weights

  -- what start left, and the results lent to the run
  abbrev zeros : List ℕ
  zeros = replicate (words_of sizes) 0

  abbrev one : Runs
  one =
      runs algebras sizes weights (record { allowance = 65535; scratch = replicate (scratch_length order) 0 } ∷ [])
      (started_state algebras order sizes weights) zeros

  word-is : (q i k : ℕ) → Entry J q i k → result_words J (whole_run algebras order sizes weights) q i k ≡ closure_words J q i k
  unfolding runs
  word-is q i k at =
      past_word {J = J} {after = one}
      (start_claim algebras order sizes weights (replicate (state_length order) 0) (begun_tests list)
      (record { allowance = 65535; scratch = replicate (scratch_length order) 0 } ∷ []) zeros)
      (length-replicate {A = ℕ} (words_of sizes) 0)
      (record { job = at.job; row = at.row; column = at.column; tick = omega (arith, tick_within list.fits at, whole_made list) })

pub demand_sheet : DemandSheet
demand_sheet text order algebras sizes weights e =
    let list : ListAccepted (jobs_of algebras order sizes weights) = whole 16 16 16384 text order algebras sizes weights e in
    let J : Jobs = jobs_of algebras order sizes weights in
    let after : Ran = whole_run algebras order sizes weights in
    record {
      named = algebra_named_lem list;
      words =
          ap printed e
          ∙ sheet_same J (result_words J after) (closure_words J) (word-is list) after.made
          ∙ ap (sheet J (closure_words J)) (whole_made list);
      best = λ q i k at.
          closure_best (algebra J q) (size J q) (job_weights J q) (list.words q) at.row at.column;
      tick = λ q i k at. tick_within list.fits at;
      line = λ q i k at. row_line J (closure_words J) (leaves J q i k) i list.fits at refl;
      nothing = λ t i none. row_empty J (closure_words J) t i none;
    }
