-- What the checks of both tables find, from what those of each found and the walk.
use Prim.Native.Nat.{ℕ}
use native.Mathlib.Omega.{arith}
use mathlib.Core.Path.{◌≡◌, refl, sym, ap, ◌∙◌}
use mathlib.Core.List.{List, ◌++◌}
use mathlib.Core.Bool.{Bool, true, false, cond}
use Rattle.refusals.specs.Tests.{first}
use Rattle.std.specs.Prelude.{Option, Some, None, Result, Ok, Err}
use Rattle.refusals.specs.Answer.{answer_number}
use Rattle.refusals.specs.Reason.{reason_number}
use Rattle.refusals.specs.declared.Reason.{Reason}
use Rattle.refusals.specs.declared.Reason.TheVariants.{RangeInverted}
use Rattle.refusals.proofs.First.{none_applied, first_before, first_after}
use Rattle.refusals.proofs.Reasons.{reason_some}
use Rattle.semiring.specs.Named.{named_of}
use Rattle.semiring.specs.declared.Algebra.{Algebra}
use Rattle.closure.specs.Tests.{elimination_table, elimination_tests}
use Rattle.closure.proofs.Accepted.{Accepted}
use Rattle.checks.specs.inner.Checks.{Checks}
use Rattle.checks.proofs.Answers.{refused_number, fit_tests, fit_input}
use Rattle.ranges.specs.Tests.{inverted, inversion_table, range_tests}
use Rattle.interval.specs.inner.Compared.{Pair}
use Rattle.interval.specs.inner.RangeChecks.{RangeChecks}

-- What the checks of the best table found stands.
best_before : (d : Option Algebra) (n : ℕ) (best worst r s : List ℕ) → (elimination_tests d n best r ≡ 0 → ⊥)
    → range_tests d n best worst r s ≡ elimination_tests d n best r
best_before None n best worst r s some = refl
best_before (Some a) n best worst r s some =
    first_before (elimination_table a n best r) (elimination_table a n worst s ++ inversion_table a n best worst) some

-- Where they found nothing, those of the worst table follow; where they found nothing either, the walk.
best_passed : (a : Algebra) (n : ℕ) (best worst r s : List ℕ) → elimination_tests (Some a) n best r ≡ 0
    → range_tests (Some a) n best worst r s ≡ first 0 (elimination_table a n worst s ++ inversion_table a n best worst)
best_passed a n best worst r s e =
    first_after (elimination_table a n best r) (elimination_table a n worst s ++ inversion_table a n best worst)
    (none_applied (elimination_table a n best r) refl e)

worst_before : (d : Option Algebra) (n : ℕ) (best worst r s : List ℕ) → elimination_tests d n best r ≡ 0 → (elimination_tests d n worst s ≡ 0 → ⊥)
    → range_tests d n best worst r s ≡ elimination_tests d n worst s
worst_before None n best worst r s e some = refl
worst_before (Some a) n best worst r s e some =
    best_passed a n best worst r s e ∙ first_before (elimination_table a n worst s) (inversion_table a n best worst) some

both_passed : (a : Algebra) (n : ℕ) (best worst r s : List ℕ) → elimination_tests (Some a) n best r ≡ 0
    → elimination_tests (Some a) n worst s ≡ 0 → range_tests (Some a) n best worst r s ≡ first 0 (inversion_table a n best worst)
both_passed a n best worst r s e f =
    best_passed a n best worst r s e
    ∙ first_after (elimination_table a n worst s) (inversion_table a n best worst) (none_applied (elimination_table a n worst s) refl f)

turned : {reason : Reason} {algebra n : ℕ} {best worst r s : List ℕ} → reason_number reason ≡ range_tests (named_of algebra) n best worst r s
    → RangeChecks (Err reason) algebra n best worst r s
turned e = record { number = e; fit = λ a e. let z : ◌≡◌ {A = ℕ} 0 1 = cc in absurd (omega arith) }

module _ {best_checked : Result Algebra Reason} {algebra n : ℕ} {best r : List ℕ} (found : Checks best_checked algebra n best r) where
  pub refused_best : {worst s : List ℕ} (reason : Reason) → best_checked ≡ Err reason
      → RangeChecks (Err reason) algebra n best worst r s
  refused_best {worst} {s} reason e =
      let k = refused_number found e in
      turned (k ∙ sym (best_before (named_of algebra) n best worst r s (λ z. reason_some reason (k ∙ z))))

  -- the best table's checks found nothing
  module _ (b : Algebra) (e : best_checked ≡ Ok b) where
    best_none : elimination_tests (named_of algebra) n best r ≡ 0
    best_none = sym found.number ∙ ap answer_number e

    module _ {worst_checked : Result Algebra Reason} {worst s : List ℕ} (found' : Checks worst_checked algebra n worst s) where
      pub refused_worst : (reason : Reason) → worst_checked ≡ Err reason → RangeChecks (Err reason) algebra n best worst r s
      refused_worst reason e' =
          let k = refused_number found' e' in
          turned (k ∙ sym (worst_before (named_of algebra) n best worst r s best_none (λ z. reason_some reason (k ∙ z))))

      -- nor did those of the worst one
      module _ (a : Algebra) (e' : worst_checked ≡ Ok a) where
        pub pair : Pair n best worst
        pair =
            let first : Accepted b n best r = fit_input found e in
            let second : Accepted a n worst s = fit_input found' e' in
            record { most = first.most; best_words = first.weights; worst_words = second.weights }

        walked : (answer found_one : Bool) → answer ≡ inverted a n best worst → answer ≡ found_one
            → cond found_one 24 0 ≡ range_tests (named_of algebra) n best worst r s
        walked answer found_one told is =
            let k : named_of algebra ≡ Some a = found'.fit a e' in
            let best-is : elimination_tests (Some a) n best r ≡ 0 = rw k at best_none in
            sym
            (ap (λ (d : Option Algebra). range_tests d n best worst r s) k
            ∙ both_passed a n best worst r s best-is (fit_tests found' a e')
            ∙ ap (λ (x : Bool). cond x 24 0) (sym told ∙ is))

        pub refused_inverted : (answer : Bool) → answer ≡ inverted a n best worst → answer ≡ true
            → RangeChecks (Err RangeInverted) algebra n best worst r s
        refused_inverted answer told is = turned (walked answer true told is)

        pub passed : (answer : Bool) → answer ≡ inverted a n best worst → answer ≡ false → RangeChecks (Ok a) algebra n best worst r s
        passed answer told is = record {
          number = walked answer false told is;
          fit = λ x f. let same : x ≡ a = cc in rw same (found'.fit a e');
        }
