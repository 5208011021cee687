-- Which words and tables lie between, by plain numbers: with fewer of them the claims over all would say less, with more the results would not be
-- their ends. And that 24 is answered only where no table does.
use Rattle.std.specs.Prelude.{ℕ, ◌<◌, ◌≤◌, ◌*◌, ◌≡◌, ◌≢◌, List, length, get_or}
use Rattle.semiring.specs.Algebra.{Word}
use Rattle.semiring.specs.Named.{named_of}
use Rattle.semiring.specs.declared.Algebra.{Algebra}
use Rattle.semiring.specs.declared.Algebra.TheVariants.{Reach, Distance, Steepest}
use Rattle.closure.specs.Table.{entries}
use Rattle.ranges.specs.Between.{Between, TableBetween}
use Rattle.ranges.specs.Given.{RangeGiven}
use Rattle.std.specs.Prelude.{Some as Known}

-- By number: "in reach the best word is the larger", in the other two the smaller.
abbrev pub Within : Algebra → ℕ → ℕ → ℕ → Type 0
Within Reach best worst x = (worst ≤ x) × (x ≤ best)
Within Distance best worst x = (best ≤ x) × (x ≤ worst)
Within Steepest best worst x = (best ≤ x) × (x ≤ worst)

-- A word lies between exactly where it does by number.
pub record BetweenExactly (a : Algebra) (best worst x : ℕ) : Type 0 where
  pub is : Between a best worst x → Within a best worst x
  pub any : Within a best worst x → Between a best worst x

abbrev pub BetweenExactlyClaim : Type 0
BetweenExactlyClaim = (a : Algebra) (best worst x : ℕ) → BetweenExactly a best worst x

-- n by n words of the algebra, on the links from the best to the worst by number, on the diagonal any.
pub record TableWithin (a : Algebra) (n : ℕ) (best worst w : List ℕ) : Type 0 where
  pub size : length w ≡ n * n
  pub words : (p : ℕ) → p < n * n → Word a (get_or w p 0)
  pub links : (i j : ℕ) → i < n → j < n → i ≢ j → Within a (entries n best i j) (entries n worst i j) (entries n w i j)

-- A table lies between exactly where it is such a one.
pub record TableExactly (a : Algebra) (n : ℕ) (best worst w : List ℕ) : Type 0 where
  pub is : TableBetween a n best worst w → TableWithin a n best worst w
  pub any : TableWithin a n best worst w → TableBetween a n best worst w

abbrev pub TablesExactly : Type 0
TablesExactly = (a : Algebra) (n : ℕ) (best worst w : List ℕ) → TableExactly a n best worst w

-- A call is refused with 24 only where no table lies between.
abbrev pub RangeEmpty : Type 0
RangeEmpty =
    (algebra n : ℕ) (best worst r s r' s' : List ℕ) → RangeGiven 24 algebra n best worst r s r' s'
    → (a : Algebra) → named_of algebra ≡ Known a → (w : List ℕ) → TableBetween a n best worst w → ⊥
