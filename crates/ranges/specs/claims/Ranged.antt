-- Request K9: "For every table that lies between the two, each closed entry lies between the two given, and both ends are reached by
-- such a table."
use Rattle.std.specs.Prelude.{ℕ, ◌<◌, ◌*◌, ◌≡◌, List, length}
use Rattle.semiring.specs.Algebra.{Betters}
use Rattle.semiring.specs.Named.{named_of}
use Rattle.semiring.specs.declared.Algebra.{Algebra}
use Rattle.closure.specs.Table.{entries}
use Rattle.closure.specs.Elimination.{closure}
use Rattle.closure.specs.Ways.{Way, NoRepeat}
use Rattle.closure.specs.Tests.{elimination_tests}
use Rattle.closure.specs.claims.Demand.{word_over}
use Rattle.ranges.specs.Between.{Between, TableBetween}
use Rattle.ranges.specs.Given.{RangeGiven}
use Rattle.std.specs.Prelude.{Some as Known}

-- What two closed tables r and s say of a hall whose links are known between two tables.
pub record Ranged (a : Algebra) (n : ℕ) (best worst r s : List ℕ) : Type 0 where
  -- every table between the two is one that the elimination takes
  pub taken : (w t : List ℕ) → TableBetween a n best worst w → length t ≡ n * n → elimination_tests (Known a) n w t ≡ 0
  -- "For every table that lies between the two, each closed entry lies between the two given"
  pub inside :
      (w : List ℕ) → TableBetween a n best worst w
      → (i j : ℕ) → i < n → j < n → Between a (entries n r i j) (entries n s i j) (closure a n w i j)
  -- "and both ends are reached by such a table": by the two tables themselves, at all entries together
  pub best_between : TableBetween a n best worst best
  pub best_reached : (i j : ℕ) → i < n → j < n → closure a n best i j ≡ entries n r i j
  pub worst_between : TableBetween a n best worst worst
  pub worst_reached : (i j : ℕ) → i < n → j < n → closure a n worst i j ≡ entries n s i j

-- What a planner reads off a pair of points: the best that can be hoped for, and the worst that is to be feared.
pub record Planned (a : Algebra) (n : ℕ) (best worst : List ℕ) (i j hoped feared : ℕ) : Type 0 where
  -- in some table between the two a way without a repeated point has the word hoped for; in none of them a way betters it
  pub hope_attained :
      (w : List ℕ) × TableBetween a n best worst w × (l : List ℕ) × Way n i j l × NoRepeat l × (word_over a n w l ≡ hoped)
  pub hope_unbettered :
      (w : List ℕ) → TableBetween a n best worst w → (l : List ℕ) → Way n i j l → Betters a (word_over a n w l) hoped → ⊥
  -- one way without a repeated point is in no table between the two worse than the word feared; in some of them no way betters it
  pub fear_held :
      (l : List ℕ) × Way n i j l × NoRepeat l
      × ((w : List ℕ) → TableBetween a n best worst w → Betters a feared (word_over a n w l) → ⊥)
  pub fear_reached :
      (w : List ℕ) × TableBetween a n best worst w
      × ((l : List ℕ) → Way n i j l → Betters a (word_over a n w l) feared → ⊥)

-- Of an accepted call.
abbrev pub RangeClosed : Type 0
RangeClosed =
    (algebra n : ℕ) (best worst r s r' s' : List ℕ) → RangeGiven 0 algebra n best worst r s r' s'
    → (a : Algebra) × (named_of algebra ≡ Known a) × Ranged a n best worst r' s'

abbrev pub RangePlanned : Type 0
RangePlanned =
    (algebra n : ℕ) (best worst r s r' s' : List ℕ) → RangeGiven 0 algebra n best worst r s r' s'
    → (a : Algebra) × (named_of algebra ≡ Known a)
    × ((i j : ℕ) → i < n → j < n → Planned a n best worst i j (entries n r' i j) (entries n s' i j))
