-- The tests of a way's call, read both ways.
use Prim.Native.Nat.{ℕ}
use mathlib.Core.Path.{◌≡◌, sym, ap, ◌∙◌}
use mathlib.Core.Logic.{inl, inr}
use mathlib.Core.List.{List}
use mathlib.Core.Bool.{true, false, not, true≢false}
use lib.ListN.{length}
use borrow.Author.Tests.{not-true, not-false}
use Rattle.memory.specs.Lists.{same}
use Rattle.memory.proofs.Same.{same_refl, same_equal}
use Rattle.refusals.specs.Conditions.{Exactly}
use Rattle.refusals.proofs.Conditions.{Decides, row, none, answered, decides_differ, decides_equal, decides_least}
use Rattle.semiring.specs.Algebra.{none_word_of}
use Rattle.semiring.specs.Named.{named_of}
use Rattle.semiring.proofs.Numbers.{Names, named_or_above, of_known}
use Rattle.closure.specs.Table.{entries}
use Rattle.closure.specs.Elimination.{eliminated}
use Rattle.closure.proofs.Refusals.{elimination_rows, elimination_unknown}
use Rattle.ways.specs.Tests.{way_tests}
use Rattle.ways.specs.claims.Refusals.{way_conditions, WayRefusals}
use Rattle.std.specs.Prelude.{Option}
use Rattle.semiring.specs.declared.Algebra.{Algebra}

decides_same : (x y : List ℕ) → Decides (not (same x y)) (x ≡ y → ⊥)
decides_same x y = record {
  yes = λ e f. true≢false (sym (same_refl x) ∙ ap (same x) f ∙ not-true (same x y) e);
  no = λ e f. f (same_equal x y (not-false (same x y) e));
}

pub way_refusals : WayRefusals
unfolding way_conditions
way_refusals algebra n w c from to list h = go (named_or_above algebra)
  where
    go : Names algebra → Exactly (way_conditions algebra n w c from to list) (way_tests (named_of algebra) n w c from to list)
    go (inl (a, known, number)) =
        answered (ap (λ (d : Option Algebra). way_tests d n w c from to list) known)
        (elimination_rows a number n w c h
        (row (decides_differ (length list) n)
        (row (decides_least n from)
        (row (decides_least n to)
        (row (of_known algebra (λ x. c ≡ eliminated x n w → ⊥) known (decides_same c (eliminated a n w)))
        (row (of_known algebra (λ x. entries n c from to ≡ none_word_of x) known (decides_equal (entries n c from to) (none_word_of a)))
        none))))))
    go (inr (unknown, above)) = answered (ap (λ (d : Option Algebra). way_tests d n w c from to list) unknown) (elimination_unknown above n w c _)
