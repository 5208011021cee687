-- Request K9: "the best and the worst word for each link", and the tables that lie between the two.
use Rattle.std.specs.Prelude.{ℕ, ◌<◌, ◌*◌, ◌≡◌, ◌≢◌, List, length, get_or}
use Rattle.semiring.specs.Algebra.{Word, Betters}
use Rattle.semiring.specs.declared.Algebra.{Algebra}
use Rattle.closure.specs.Table.{entries}

-- The word x lies between two others: it does not better the best, and the worst does not better it. "Better is meant as document 01
-- says it, so in reach the best word is the larger."
pub record Between (a : Algebra) (best worst x : ℕ) : Type 0 where
  pub best_holds : Betters a x best → ⊥
  pub worst_holds : Betters a worst x → ⊥

-- A table of n by n words lies between two others: each link does. "diagonals don't count"
pub record TableBetween (a : Algebra) (n : ℕ) (best worst w : List ℕ) : Type 0 where
  pub size : length w ≡ n * n
  pub words : (p : ℕ) → p < length w → Word a (get_or w p 0)
  pub links : (i j : ℕ) → i < n → j < n → i ≢ j → Between a (entries n best i j) (entries n worst i j) (entries n w i j)

-- (i, j) is "a link whose worst word betters its best one".
abbrev pub WorstBetters : Algebra → ℕ → List ℕ → List ℕ → ℕ → ℕ → Type 0
WorstBetters a n best worst i j = Betters a (entries n worst i j) (entries n best i j)

-- Some link off the diagonal is.
abbrev pub Inverted : Algebra → ℕ → List ℕ → List ℕ → Type 0
Inverted a n best worst = (i : ℕ) × (j : ℕ) × (i < n) × (j < n) × (i ≢ j) × WorstBetters a n best worst i j
