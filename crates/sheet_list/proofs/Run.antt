-- A list that the reader accepted is started and run, and never refused.
use Prim.Native.Nat.{ℕ}
use native.Mathlib.Omega.{arith}
use mathlib.Core.Path.{◌≡◌, sym, ap, ◌∙◌}
use mathlib.Core.List.{List, ◌++◌}
use lib.ListN.{length, replicate, length-replicate}
use mir.Syntax.{w32}
use mir.Val.{Fits}
use Rattle.job_list.specs.Fits.{ListAccepted}
use Rattle.job_list.specs.Jobs.{jobs_of}
use Rattle.systolic.specs.Run.{Ran, ran}
use Rattle.systolic.proofs.Started.{starts}
use Rattle.refusals.specs.declared.Reason.{Reason}
use Rattle.refusals.proofs.Reasons.{reason_some}
use Rattle.std.specs.Prelude.{Result, Ok, Err}
use Rattle.refusals.specs.Answer.{answer_number}
use Rattle.starting.specs.StartLeft.{StartLeft}
use Rattle.array.specs.RunAnswer.{run_made, Answered}
use Rattle.text.specs.Joined.{joined}
use Rattle.text.specs.declared.page.Page.{Page}
use Rattle.text.specs.inner.Printed.{Printed}
use Rattle.text.proofs.Printed.{◌then◌, printed_as}
use Rattle.sheet_form.specs.Lines.{jobs_line, sheet}
use Rattle.sheet_form.specs.Sheet.{whole_run, sheet_from}
use Rattle.sheet_form.proofs.WholeRun.{start_leaves, begun_leaves, run_whole}
use Rattle.sheet_ticks.specs.inner.Leaving.{Printable, tick_lines}
use Rattle.sheet_list.specs.inner.Memory.{RunMemory}

-- The answer of a run that was accepted, and the results that it left: those of the whole run.
record RanWhole (answer : Result ℕ Reason) (results : List ℕ) (whole : Ran) : Type 0 where
  pub number : answer_number answer ≡ 0
  pub made : run_made answer ≡ whole.made
  pub words : results ≡ whole.results

-- The first line and the ticks' lines are the sheet.
sheet_is : (algebras : List ℕ) (order : ℕ) (sizes weights : List ℕ) {made : ℕ} {results : List ℕ} (after : Ran)
    → made ≡ after.made → results ≡ after.results
    → jobs_line (length sizes) made ++ joined made (tick_lines algebras order sizes results) ≡ sheet_from (jobs_of algebras order sizes weights) after
unfolding sheet tick_lines
sheet_is algebras order sizes weights after is_made is_results = rw (is_made, is_results)

-- What `print_run` asks of the list and the memory, and what start, clear and run leave of that memory.
module _ {algebras : List ℕ} {order : ℕ} {sizes weights state scratch results : List ℕ}
    (asked : ListAccepted (jobs_of algebras order sizes weights) × RunMemory order sizes state scratch results) where
  pub jobs_room : Fits w32 (length sizes)
  jobs_room = omega (arith, asked.0.fits.ranged.few)

  pub printable : {results' results'' : List ℕ} → results' ≡ replicate (length results) 0 → length results'' ≡ length results'
      → Printable algebras order sizes results''
  printable zeros kept = record {
    list = record {
      ranged = asked.0.fits.ranged;
      algebras_fit = asked.0.fits.algebras_fit;
      sizes_fit = asked.0.fits.sizes_fit;
    };
    results_fit = kept ∙ ap length zeros ∙ length-replicate {A = ℕ} (length results) 0 ∙ asked.1.results_fit;
  }

  module _ {first : Result (Unit {0}) Reason} {state' : List ℕ} (left : StartLeft first algebras order sizes weights state state') where
    -- No reason has the number 0, which start and run answer.
    pub start_accepts : {reason : Reason} → first ≡ Err reason → ⊥
    start_accepts {reason} refused =
        reason_some reason (sym (ap answer_number refused) ∙ left.outcome ∙ starts asked.0 state asked.1.state_fits)

    module _ {answer : Result ℕ Reason} {state'' scratch'' results' results'' : List ℕ} (cleared : results' ≡ replicate (length results) 0)
        (answered : Answered answer state'' scratch'' results'' (ran state' algebras sizes weights 65535 scratch results')) where
      run_done : RanWhole answer results'' (whole_run algebras order sizes weights)
      run_done =
          let is_state = left.memory ∙ start_leaves asked.0 state asked.1.state_fits ∙ sym (begun_leaves asked.0) in
          let zeros = cleared ∙ ap (λ (m : ℕ). replicate {A = ℕ} m 0) asked.1.results_fit in
          let (number, made, words) = run_whole asked.0 scratch is_state asked.1.scratch_fits zeros in
          record {
            number = answered.number ∙ number;
            made = answered.made ∙ made;
            words = answered.results_after ∙ words;
          }

      pub run_accepts : {reason : Reason} → answer ≡ Err reason → ⊥
      run_accepts {reason} refused = reason_some reason (sym (ap answer_number refused) ∙ run_done.number)

      pub sheet_printed : {ticks : ℕ} → answer ≡ Ok ticks → {page page' page'' : Page}
          → Printed page (jobs_line (length sizes) ticks) page'
          → Printed page' (joined ticks (tick_lines algebras order sizes results'')) page''
          → Printed page (sheet_from (jobs_of algebras order sizes weights) (whole_run algebras order sizes weights)) page''
      sheet_printed made first rest =
          printed_as (first then rest)
          (sheet_is algebras order sizes weights (whole_run algebras order sizes weights) (ap run_made (sym made) ∙ run_done.made) run_done.words)
