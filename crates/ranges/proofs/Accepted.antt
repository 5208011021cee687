-- What the tests of a range's call ask of its input.
use Prim.Native.Nat.{ℕ}
use mathlib.Core.Path.{◌≡◌, refl}
use mathlib.Core.List.{List, ◌++◌}
use Rattle.refusals.proofs.First.{Clear, none_applied, clear_before, clear_after}
use Rattle.semiring.specs.declared.Algebra.{Algebra}
use Rattle.closure.specs.Tests.{elimination_table}
use Rattle.closure.proofs.Accepted.{Accepted, clear_accepted}
use Rattle.ranges.specs.Between.{Inverted}
use Rattle.ranges.specs.Tests.{inversion_table, range_table, range_tests}
use Rattle.ranges.proofs.Inverted.{decides_inverted}
use Rattle.std.specs.Prelude.{Some as Known}

pub record RangeAccepted (a : Algebra) (n : ℕ) (best worst r s : List ℕ) : Type 0 where
  pub first : Accepted a n best r
  pub second : Accepted a n worst s
  pub order : Inverted a n best worst → ⊥

pub range_accepted : {a : Algebra} {n : ℕ} {best worst r s : List ℕ} → range_tests (Known a) n best worst r s ≡ 0
    → RangeAccepted a n best worst r s
range_accepted {a} {n} {best} {worst} {r} {s} e =
    let later = elimination_table a n worst s ++ inversion_table a n best worst in
    let all = none_applied (range_table a n best worst r s) refl e in
    let more = clear_after (elimination_table a n best r) later all in
    let last : Clear (inversion_table a n best worst) = clear_after (elimination_table a n worst s) (inversion_table a n best worst) more in
    record {
      first = clear_accepted (clear_before (elimination_table a n best r) later all);
      second = clear_accepted (clear_before (elimination_table a n worst s) (inversion_table a n best worst) more);
      order = (decides_inverted a n best worst).no last.0;
    }
