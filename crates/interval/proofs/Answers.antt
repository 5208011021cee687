-- What the call answers and leaves, from what its checks found.
use Prim.Native.Nat.{ℕ, ◌*◌}
use mathlib.Core.Path.{◌≡◌, sym, ap, ◌∙◌}
use mathlib.Core.List.{List}
use Rattle.std.specs.Prelude.{Some, Result, Ok, Err}
use Rattle.refusals.specs.Answer.{answer_number}
use Rattle.refusals.specs.Reason.{reason_number}
use Rattle.refusals.specs.declared.Reason.{Reason}
use Rattle.refusals.proofs.Reasons.{reason_some}
use Rattle.semiring.specs.Named.{named_of}
use Rattle.semiring.specs.declared.Algebra.{Algebra}
use Rattle.closure.specs.Elimination.{eliminated}
use Rattle.table_layout.specs.LaidOut.{ToLayOut}
use Rattle.elimination.proofs.Eliminates.{to_eliminate}
use Rattle.ranges.specs.Tests.{range_tests}
use Rattle.ranges.specs.Given.{RangeGiven}
use Rattle.ranges.proofs.Accepted.{RangeAccepted, range_accepted}
use Rattle.ranges.proofs.Refusals.{kept}
use Rattle.interval.specs.inner.RangeChecks.{RangeChecks}

module _ {checked : Result Algebra Reason} {algebra n : ℕ} {best worst r s : List ℕ} (found : RangeChecks checked algebra n best worst r s) where
  -- a test applied: both results are as they were
  pub refused : (reason : Reason) → checked ≡ Err reason → RangeGiven (reason_number reason) algebra n best worst r s r s
  refused reason e =
      let k : reason_number reason ≡ range_tests (named_of algebra) n best worst r s = sym (ap answer_number e) ∙ found.number in
      record {
        outcome = k;
        best_memory = sym (kept (named_of algebra) n best r (reason_some reason));
        worst_memory = sym (kept (named_of algebra) n worst s (reason_some reason));
      }

  -- none did: what each elimination asks, and what both leave
  module _ {a : Algebra} (e : checked ≡ Ok a) where
    known : named_of algebra ≡ Some a
    known = found.fit a e

    none : range_tests (Some a) n best worst r s ≡ 0
    none = rw known at (sym found.number ∙ ap answer_number e)

    input : RangeAccepted a n best worst r s
    input = range_accepted none

    pub best_ready : ToLayOut n (n * n) best r
    best_ready = to_eliminate input.first

    pub worst_ready : ToLayOut n (n * n) worst s
    worst_ready = to_eliminate input.second

    pub given : {r' s' : List ℕ} → r' ≡ eliminated a n best → s' ≡ eliminated a n worst → RangeGiven 0 algebra n best worst r s r' s'
    given first second = record { outcome = rw known (sym none); best_memory = rw known first; worst_memory = rw known second }
