-- Demand 2: "For every accepted table the elimination gives for each pair of points a word that some way attains and no way
-- betters, in all three algebras." And document 01: "Some way without a repeated point attains each entry."
use Rattle.std.specs.Prelude.{ℕ, ◌<◌, ◌+◌, ◌*◌, ◌≡◌, List, get_or}
use Rattle.semiring.specs.Algebra.{Betters}
use Rattle.semiring.specs.Named.{named_of}
use Rattle.semiring.specs.declared.Algebra.{Algebra}
use Rattle.closure.specs.Table.{entries, with_own}
use Rattle.closure.specs.Elimination.{closure}
use Rattle.closure.specs.Ways.{Way, way_word, NoRepeat}
use Rattle.closure.specs.Tests.{elimination_tests, result_after}
use Rattle.std.specs.Prelude.{Some as Known}

-- The word of a way over n by n weights.
abbrev pub word_over : Algebra → ℕ → List ℕ → List ℕ → ℕ
word_over a n w l = way_word a (with_own a (entries n w)) l

-- x is the word of some way from i to j without a repeated point, and no way from i to j betters it.
pub record Best (a : Algebra) (n : ℕ) (w : List ℕ) (i j x : ℕ) : Type 0 where
  pub attained : (l : List ℕ) × Way n i j l × NoRepeat l × (x ≡ word_over a n w l)
  pub unbettered : (l : List ℕ) → Way n i j l → Betters a (word_over a n w l) x → ⊥

abbrev pub Demand2 : Type 0
Demand2 =
    (a : Algebra) (n : ℕ) (w r : List ℕ) → elimination_tests (Known a) n w r ≡ 0
    → (i j : ℕ) → i < n → j < n → Best a n w i j (closure a n w i j)

-- The same of the words that an accepted call leaves in the result.
abbrev pub Demand2Result : Type 0
Demand2Result =
    (number n : ℕ) (w r : List ℕ) → elimination_tests (named_of number) n w r ≡ 0
    → (a : Algebra) × (named_of number ≡ Known a)
    × ((i j : ℕ) → i < n → j < n → Best a n w i j (get_or (result_after (named_of number) n w r) (i * n + j) 0))
