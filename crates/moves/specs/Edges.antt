-- What the edges hold, and what is put in from them.
use Rattle.std.specs.Prelude.{ℕ, ◌+◌, ◌-◌, ◌*◌, ◌<◌, ◌≤◌, ◌≡◌, List, cond, length, get_or}
use Rattle.memory.specs.Walked.{Spanned}
use Rattle.moves.specs.Stored.{Stored}
use Rattle.turns.specs.Turn.{live, Phase}

-- The left edge up to word `end` holds the last column of a.
abbrev pub LeftWrapped : ℕ → List ℕ → List ℕ → ℕ → List ℕ → Type 0
LeftWrapped n planes old end new = Spanned (λ p word. get_or planes (n * n + ((p - n) * n + n - 1)) 0) old n end new

-- The first column of a holds the left edge's words in the rows from `from` to `to`.
abbrev pub LeftEntered : ℕ → ℕ → ℕ → List ℕ → List ℕ → List ℕ → Type 0
LeftEntered n from to left old new = Stored (λ i. (from ≤ i) × (i < to)) (λ i. n * n + i * n) (λ i. get_or left i 0) old new

-- They hold the array's own words: the top the last row of b, the left the last column of a.
pub record Wrapped (n : ℕ) (planes old new : List ℕ) : Type 0 where
  pub size : length new ≡ length old
  pub top : (j : ℕ) → j < n → get_or new j 0 ≡ get_or planes (2 * (n * n) + ((n - 1) * n + j)) 0
  pub left : (i : ℕ) → i < n → get_or new (n + i) 0 ≡ get_or planes (n * n + (i * n + (n - 1))) 0

-- Their words are put into the first row of b and the first column of a, where the cells make a step.
pub record Entered (n count u : ℕ) (edges old new : List ℕ) : Type 0 where
  pub size : length new ≡ length old
  pub left : (i pass k : ℕ) → i < n → Phase n u i 0 pass k
      → get_or new (n * n + i * n) 0 ≡ cond (live count pass) (get_or edges (n + i) 0) (get_or old (n * n + i * n) 0)
  pub top : (j pass k : ℕ) → j < n → Phase n u 0 j pass k
      → get_or new (2 * (n * n) + j) 0 ≡ cond (live count pass) (get_or edges j 0) (get_or old (2 * (n * n) + j) 0)
  pub c : (p : ℕ) → p < n * n → get_or new p 0 ≡ get_or old p 0
  pub a : (i j : ℕ) → i < n → 1 ≤ j → j < n → get_or new (n * n + (i * n + j)) 0 ≡ get_or old (n * n + (i * n + j)) 0
  pub b : (p : ℕ) → 2 * (n * n) + n ≤ p → get_or new p 0 ≡ get_or old p 0
