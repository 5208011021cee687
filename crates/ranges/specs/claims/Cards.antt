-- Cards for request K9. In distance a hall of three points: a lift 0→1 that takes 2 to 5, a belt 1→2 that takes 3, and a belt 0→2 that
-- takes 9 or stands still. In reach two points, and a link 0→1 that may stand still.
use Rattle.std.specs.Prelude.{ℕ, ◌≡◌, List, [], ◌∷◌}
use Rattle.semiring.specs.Named.{named_of}
use Rattle.semiring.specs.declared.Algebra.TheVariants.{Reach, Distance}
use Rattle.ranges.specs.Between.{TableBetween}
use Rattle.ranges.specs.Tests.{range_tests}
use Rattle.ranges.specs.Given.{RangeGiven}

-- The worst table's diagonal betters the best one's: diagonals don't count.
abbrev pub quick : List ℕ
quick = 7 ∷ 2 ∷ 9 ∷ 65535 ∷ 7 ∷ 3 ∷ 65535 ∷ 65535 ∷ 7 ∷ []

abbrev pub slow : List ℕ
slow = 0 ∷ 5 ∷ 65535 ∷ 65535 ∷ 0 ∷ 3 ∷ 65535 ∷ 65535 ∷ 0 ∷ []

-- A lift that takes 4 lies between, one that takes 6 or 1 does not.
abbrev pub lift : ℕ → List ℕ
lift time = 8 ∷ time ∷ 9 ∷ 65535 ∷ 8 ∷ 3 ∷ 65535 ∷ 65535 ∷ 8 ∷ []

abbrev room : List ℕ
room = 4 ∷ 4 ∷ 4 ∷ 4 ∷ 4 ∷ 4 ∷ 4 ∷ 4 ∷ 4 ∷ []

abbrev other : List ℕ
other = 6 ∷ 6 ∷ 6 ∷ 6 ∷ 6 ∷ 6 ∷ 6 ∷ 6 ∷ 6 ∷ []

abbrev pub number : ℕ → List ℕ → List ℕ → ℕ
number algebra best worst = range_tests (named_of algebra) 3 best worst room room

-- Two points, with the words of the links 0→1 and 1→0 and of the diagonal.
abbrev pub pair : ℕ → ℕ → ℕ → List ℕ
pair there back own = own ∷ there ∷ back ∷ own ∷ []

abbrev pub pair_number : ℕ → List ℕ → List ℕ → List ℕ → List ℕ → ℕ
pair_number algebra best worst r s = range_tests (named_of algebra) 2 best worst r s

abbrev words : List ℕ
words = 4 ∷ 4 ∷ 4 ∷ 4 ∷ []

abbrev short : List ℕ
short = 4 ∷ 4 ∷ 4 ∷ []

pub record RangeCards : Type 0 where
  -- distance: from 0 to 2 at best 5 and at worst 8
  pub taken : number 1 quick slow ≡ 0
  pub given :
      RangeGiven 0 1 3 quick slow room other
      (0 ∷ 2 ∷ 5 ∷ 65535 ∷ 0 ∷ 3 ∷ 65535 ∷ 65535 ∷ 0 ∷ [])
      (0 ∷ 5 ∷ 8 ∷ 65535 ∷ 0 ∷ 3 ∷ 65535 ∷ 65535 ∷ 0 ∷ [])
  pub inside : TableBetween Distance 3 quick slow (lift 4)
  pub above : TableBetween Distance 3 quick slow (lift 6) → ⊥
  pub under : TableBetween Distance 3 quick slow (lift 1) → ⊥
  -- exchanged they are 24, in steepest too; a table with itself is not
  pub exchanged : RangeGiven 24 1 3 slow quick room other room other
  pub steepest : (number 2 quick slow ≡ 0) × (number 2 slow quick ≡ 24)
  pub itself : (number 1 quick quick ≡ 0) × (number 1 slow slow ≡ 0)
  -- 24 also for a link that no way needs: from 0 to 2 it is 5 over 1
  pub unneeded : number 1 (lift 2) (7 ∷ 5 ∷ 8 ∷ 65535 ∷ 7 ∷ 3 ∷ 65535 ∷ 65535 ∷ 7 ∷ []) ≡ 24
  -- reach: the best word is the larger
  pub reach_taken : pair_number 0 (pair 1 0 0) (pair 0 0 1) words words ≡ 0
  pub reach_exchanged : pair_number 0 (pair 0 0 1) (pair 1 0 0) words words ≡ 24
  pub reach_inside : TableBetween Reach 2 (pair 1 0 0) (pair 0 0 1) (pair 1 0 1)
  pub reach_above : TableBetween Reach 2 (pair 1 0 0) (pair 0 0 1) (pair 1 1 1) → ⊥
  pub reach_under : TableBetween Reach 2 (pair 1 0 0) (pair 1 0 1) (pair 0 0 1) → ⊥
  -- the order of the tests
  pub unknown : pair_number 3 short short short short ≡ 1
  pub size : range_tests (named_of 0) 0 short short short short ≡ 2
  pub best_short : pair_number 0 short short short short ≡ 3
  pub best_result_short : pair_number 0 (pair 0 2 0) short short short ≡ 4
  pub best_above : RangeGiven 5 0 2 (pair 0 0 2) short words short words short
  pub worst_short : pair_number 0 (pair 0 0 1) short words short ≡ 3
  pub worst_result_short : RangeGiven 4 0 2 (pair 0 0 1) (pair 1 2 0) words short words short
  pub worst_above : pair_number 0 (pair 0 0 1) (pair 1 0 2) words words ≡ 5
