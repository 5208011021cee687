-- A table that meets the elimination's tests is closed, never refused.
use Prim.Native.Nat.{ℕ}
use Rattle.std.specs.Prelude.{Result, Err, Some}
use mathlib.Core.Path.{◌≡◌, sym, ap, ◌∙◌}
use mathlib.Core.List.{List}
use Rattle.semiring.specs.declared.Algebra.TheVariants.{Distance}
use Rattle.closure.specs.Tests.{elimination_tests}
use Rattle.closure.proofs.Accepted.{accepts}
use Rattle.refusals.specs.Answer.{answer_number}
use Rattle.refusals.specs.declared.Reason.{Reason}
use Rattle.refusals.proofs.Reasons.{reason_some}
use Rattle.paths.specs.Eliminated.{Eliminated}
use Rattle.road_sheet.specs.inner.Tables.{ToClose}

module _ {n : ℕ} {table closed : List ℕ} (asked : ToClose n table closed) where
  -- no test applies
  passed : elimination_tests (Some Distance) n table closed ≡ 0
  passed = accepts {a = Distance} {w = table} {r = closed} (record {
    least = asked.least;
    most = asked.most;
    weights = asked.table_fits;
    result = asked.closed_fits;
    words = asked.words;
  })

  module _ {answer : Result (Unit {0}) Reason} {closed' : List ℕ} (done : Eliminated answer 1 n table closed closed') where
    pub never_refused : (reason : Reason) → answer ≡ Err reason → ⊥
    never_refused reason e = reason_some reason (sym (ap (λ (r : Result (Unit {0}) Reason). answer_number r) e) ∙ done.outcome ∙ passed)
