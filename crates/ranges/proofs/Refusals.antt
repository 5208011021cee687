-- The tests of a range's call, read both ways; and that a refusal leaves both results.
use Prim.Native.Nat.{ℕ}
use mathlib.Core.Path.{◌≡◌, refl, ap, ◌∙◌}
use mathlib.Core.Logic.{inl, inr}
use mathlib.Core.List.{List}
use borrow.Author.Tests.{ne_eqb}
use Rattle.refusals.specs.Conditions.{Exactly}
use Rattle.refusals.proofs.Conditions.{row, none, answered}
use Rattle.semiring.specs.Named.{named_of}
use Rattle.semiring.proofs.Numbers.{Names, named_or_above, of_known}
use Rattle.closure.proofs.Refusals.{elimination_rows, elimination_unknown}
use Rattle.ranges.specs.Between.{Inverted}
use Rattle.ranges.specs.Tests.{range_tests, closed_after}
use Rattle.ranges.specs.claims.Refusals.{range_conditions, RangeRefusals, RangeKept}
use Rattle.ranges.proofs.Inverted.{decides_inverted}
use Rattle.std.specs.Prelude.{Option, Some as Known, None as Unknown}
use Rattle.semiring.specs.declared.Algebra.{Algebra}

pub range_refusals : RangeRefusals
unfolding range_conditions
range_refusals number algebra n best worst r s r' s' given h k = answered given.outcome (go (named_or_above algebra))
  where
    go : Names algebra → Exactly (range_conditions algebra n best worst r s) (range_tests (named_of algebra) n best worst r s)
    go (inl (a, known, is)) =
        answered (ap (λ (d : Option Algebra). range_tests d n best worst r s) known)
        (elimination_rows a is n best r h
        (elimination_rows a is n worst s k
        (row (of_known algebra (λ x. Inverted x n best worst) known (decides_inverted a n best worst))
        none)))
    go (inr (unknown, above)) = answered (ap (λ (d : Option Algebra). range_tests d n best worst r s) unknown) (elimination_unknown above n best r _)

-- A result where a test applied.
pub kept : (d : Option Algebra) {number : ℕ} (n : ℕ) (w r : List ℕ) → (number ≡ 0 → ⊥) → closed_after d number n w r ≡ r
kept Unknown n w r some = refl
kept (Known a) {number} n w r some = rw (ne_eqb number 0 some)

pub range_kept : RangeKept
range_kept number algebra n best worst r s r' s' given some = (
  given.best_memory ∙ kept (named_of algebra) n best r some,
  given.worst_memory ∙ kept (named_of algebra) n worst s some,
)
