-- Request K9's tests, read both ways in its own conditions.
use Rattle.std.specs.Prelude.{ℕ, ◌≡◌, List}
use Rattle.refusals.specs.Conditions.{Conditions, otherwise, test, followed, Exactly, Words16}
use Rattle.semiring.specs.Named.{named_of}
use Rattle.semiring.specs.declared.Algebra.{Algebra}
use Rattle.closure.specs.claims.Refusals.{elimination_conditions}
use Rattle.ranges.specs.Between.{Inverted}
use Rattle.ranges.specs.Given.{RangeGiven}
use Rattle.std.specs.Prelude.{Some as Known}

-- "All checks of the elimination are made for the best table, then for the worst. A link whose worst word betters its best one is 24,
-- tested last"
unfoldable pub range_conditions : ℕ → ℕ → List ℕ → List ℕ → List ℕ → List ℕ → Conditions
range_conditions algebra n best worst r s =
    followed (elimination_conditions algebra n best r)
    (followed (elimination_conditions algebra n worst s)
    (test ((a : Algebra) × (named_of algebra ≡ Known a) × Inverted a n best worst) 24
    otherwise))

-- Of the number that a call answers, whatever the contract's record hands to the tests.
abbrev pub RangeRefusals : Type 0
RangeRefusals =
    (number algebra n : ℕ) (best worst r s r' s' : List ℕ) → RangeGiven number algebra n best worst r s r' s' → Words16 best → Words16 worst
    → Exactly (range_conditions algebra n best worst r s) number

-- A refused call leaves both results as they were.
abbrev pub RangeKept : Type 0
RangeKept =
    (number algebra n : ℕ) (best worst r s r' s' : List ℕ)
    → RangeGiven number algebra n best worst r s r' s' → (number ≡ 0 → ⊥) → (r' ≡ r) × (s' ≡ s)
