-- What a call answers: a refusal of the elimination's checks, one of its own tests, or a way.
use Prim.Native.Nat.{ℕ, ◌<◌}
use mathlib.Core.Path.{◌≡◌, refl, sym, ap, ◌∙◌}
use mathlib.Core.List.{List, []}
use mathlib.Core.Bool.{Bool, false, not}
use lib.ListN.{length}
use borrow.Author.Tests.{not-false}
use Rattle.memory.specs.Lists.{same}
use Rattle.memory.proofs.Same.{same_equal}
use Rattle.refusals.specs.Tests.{first}
use Rattle.refusals.proofs.First.{first_before, first_after, none_applied}
use Rattle.semiring.specs.Named.{named_of}
use Rattle.semiring.specs.declared.Algebra.{Algebra}
use Rattle.std.specs.Prelude.{Option, Some, None, Result, Ok, Err}
use Rattle.closure.specs.Elimination.{eliminated}
use Rattle.closure.specs.Tests.{elimination_table, elimination_tests}
use Rattle.closure.proofs.Accepted.{Accepted}
use Rattle.refusals.specs.Reason.{reason_number}
use Rattle.checks.specs.inner.Checks.{Checks}
use Rattle.refusals.specs.declared.Reason.{Reason}
use Rattle.refusals.proofs.Reasons.{reason_some}
use Rattle.checks.proofs.Answers.{refused_number, fit_tests, fit_input}
use Rattle.closure_test.specs.inner.Tables.{Tables}
use Rattle.ways.specs.Tests.{further_table, way_tests}
use Rattle.ways.specs.Given.{WayGiven}
use Rattle.ways.specs.inner.Sought.{Sought, Found}

-- What the checks found stands.
checked_before : (d : Option Algebra) (n : ℕ) (w c : List ℕ) (from to : ℕ) (list : List ℕ) → (elimination_tests d n w c ≡ 0 → ⊥)
    → way_tests d n w c from to list ≡ elimination_tests d n w c
checked_before None n w c from to list some = refl
checked_before (Some a) n w c from to list some = first_before (elimination_table a n w c) (further_table a n w c from to list) some

turned : {number algebra n : ℕ} {w c : List ℕ} {from to : ℕ} {list : List ℕ} → way_tests (named_of algebra) n w c from to list ≡ number
    → (number ≡ 0 → ⊥) → WayGiven number 0 algebra n w c from to list list
turned e some = record {
  points = [];
  free = record { accepted = λ a k zero. absurd (some (sym e ∙ zero)); refused = λ h. refl };
  outcome = sym e;
  carried = refl;
  memory = refl;
}

module _ {checked : Result Algebra Reason} {algebra n : ℕ} {w c : List ℕ} (found : Checks checked algebra n w c) where
  pub refused_checks : {from to : ℕ} {list : List ℕ} (reason : Reason) → checked ≡ Err reason
      → WayGiven (reason_number reason) 0 algebra n w c from to list list
  refused_checks {from} {to} {list} reason e =
      let k = refused_number found e in
      let some = reason_some reason in
      turned (checked_before (named_of algebra) n w c from to list (λ z. some (k ∙ z)) ∙ sym k) some

  -- the checks found nothing
  module _ (a : Algebra) (e : checked ≡ Ok a) where
    input : Accepted a n w c
    input = fit_input found e

    answered : (from to : ℕ) (list : List ℕ) {number : ℕ} → first 0 (further_table a n w c from to list) ≡ number
        → way_tests (named_of algebra) n w c from to list ≡ number
    answered from to list further =
        ap (λ (d : Option Algebra). way_tests d n w c from to list) (found.fit a e)
        ∙ first_after (elimination_table a n w c) (further_table a n w c from to list)
        (none_applied (elimination_table a n w c) refl (fit_tests found a e))
        ∙ further

    module _ {from to : ℕ} {list : List ℕ} where
      pub refused : (reason : Reason) → first 0 (further_table a n w c from to list) ≡ reason_number reason
          → WayGiven (reason_number reason) 0 algebra n w c from to list list
      refused reason further = turned (answered from to list further) (reason_some reason)

      pub given : {list' : List ℕ} {count : ℕ} → first 0 (further_table a n w c from to list) ≡ 0 → Found a n w c from to list list' count
          → WayGiven 0 count algebra n w c from to list list'
      given further way = record {
        points = way.points;
        free = record {
          accepted = λ b k zero. let same : a ≡ b = cc (found.fit a e) in rw (← same) way.attains;
          refused = λ h. absurd (h (answered from to list further));
        };
        outcome = sym (answered from to list further);
        carried = way.carried;
        memory = way.memory;
      }

      pub sought : (answer : Bool) → length list ≡ n → from < n → to < n → answer ≡ same c (eliminated a n w) → not answer ≡ false
          → Sought a n w c from to list
      sought answer room start end told closed = record {
        most = input.most;
        links = input.weights;
        words = input.words;
        closed = same_equal c (eliminated a n w) (sym told ∙ not-false answer closed);
        room = room;
        from_inside = start;
        to_inside = end;
      }

    pub tables : Tables n 128 w c
    tables = record { fits = input.most; links = input.weights; table = input.result }
