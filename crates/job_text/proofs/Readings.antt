-- What a call owes for a whole text, from its tests and the walk over its lines.
use Prim.Native.Nat.{ℕ, zero, suc, ◌≤◌}
use mathlib.Core.Path.{◌≡◌, refl, sym, ap, ◌∙◌}
use mathlib.Core.List.{List, []}
use Rattle.refusals.specs.Tests.{first}
use lib.ListN.{length}
use borrow.Author.Tests.{ltb-false}
use Rattle.std.proofs.Common.{Result, Ok, Err}
use Rattle.refusals.specs.Reason.{reason_number}
use Rattle.refusals.specs.Answer.{answer_number}
use Rattle.refusals.specs.declared.Reason.{Reason}
use Rattle.text.specs.Pieces.{lines}
use Rattle.job_reading.specs.declared.answer.Refusal.{Refusal as Why}
use Rattle.job_reading.specs.declared.answer.List.{List as Listed}
use Rattle.job_reading.specs.Steps.{go, start}
use Rattle.job_reading.specs.Reading.{refusal, unless, follow, length_tests, reading_of, turned, answer_of, answered, ReadInto}
use Rattle.job_form.specs.Buffer.{padded}
use Rattle.job_steps.specs.inner.States.{Cleared, AllCleared, Owed}
use Rattle.job_form.proofs.Padded.{length-padded}
use Rattle.refusals.proofs.First.{none_applied}
use Rattle.refusals.proofs.Reasons.{reason_some}

-- buffers that were cleared
long : {m : ℕ} {l : List ℕ} → Cleared m l → m ≡ length l
long {m} c = sym (ap length c.zeros ∙ length-padded m [])

own_long : {m : ℕ} {l : List ℕ} → Cleared m l → Cleared (length l) l
own_long c = record { zeros = c.zeros ∙ ap (λ (n : ℕ). padded n []) (long c) }

pub cleared : {l m n : ℕ} {algebras sizes weights : List ℕ} → AllCleared l m n algebras sizes weights
    → AllCleared (length algebras) (length sizes) (length weights) algebras sizes weights
cleared z = record { algebras_zero = own_long z.algebras_zero; sizes_zero = own_long z.sizes_zero; weights_zero = own_long z.weights_zero }

module _ {A : Type 0} (l m n : ℕ) (text : List ℕ) (found : Result A Reason) (t : answer_number found ≡ first 0 (length_tests l m n (length text))) where
  pub text_fits : {x : A} → found ≡ Ok x → length text ≤ 65536
  text_fits e =
      let clear = none_applied (length_tests l m n (length text)) refl (sym t ∙ ap answer_number e) in
      ltb-false 65536 (length text) clear.1.0

  reading_by : reading_of l m n text ≡ unless (answer_number found) (follow 0 (lines text) (go start))
  unfolding reading_of
  reading_by = ap (λ (k : ℕ). unless k (follow 0 (lines text) (go start))) (sym t)

  -- a test before any line
  pub refused_first : {reason : Reason} {r : Result Listed Why} {algebras sizes weights : List ℕ} → found ≡ Err reason
      → answered r ≡ turned (refusal (reason_number reason) 0) → AllCleared l m n algebras sizes weights → ReadInto l m n text r algebras sizes weights
  refused_first {reason} {r} {algebras} {sizes} {weights} why is none =
      by (reason_number reason) (reading_by ∙ ap (λ (x : Result A Reason). unless (answer_number x) (follow 0 (lines text) (go start))) why) is (reason_some reason)
    where
      by : (k : ℕ) → reading_of l m n text ≡ unless k (follow 0 (lines text) (go start)) → answered r ≡ turned (refusal k 0) → (k ≡ 0 → ⊥)
          → ReadInto l m n text r algebras sizes weights
      by zero e is h = absurd (h refl)
      by (suc k) e is h = record {
        outcome = is ∙ sym (ap answer_of e);
        algebras_left = rw e none.algebras_zero.zeros;
        sizes_left = rw e none.sizes_zero.zeros;
        weights_left = rw e none.weights_zero.zeros;
      }

  -- no such test, so the lines are read into cleared buffers
  pub read_lines : {r : Result Listed Why} {old_algebras old_sizes old_weights algebras sizes weights : List ℕ} {x : A} → found ≡ Ok x
      → AllCleared l m n old_algebras old_sizes old_weights
      → Owed (length old_algebras) (length old_sizes) (length old_weights) (follow 0 (lines text) (go start)) r algebras sizes weights
      → ReadInto l m n text r algebras sizes weights
  read_lines passed empty owed =
      let e : reading_of l m n text ≡ follow 0 (lines text) (go start) = reading_by ∙ ap (λ (x : Result A Reason). unless (answer_number x) (follow 0 (lines text) (go start))) passed in
      record {
        outcome = rw e owed.outcome;
        algebras_left = rw (e, long empty.algebras_zero) owed.algebras_left;
        sizes_left = rw (e, long empty.sizes_zero) owed.sizes_left;
        weights_left = rw (e, long empty.weights_zero) owed.weights_left;
      }
