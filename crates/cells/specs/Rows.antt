-- Rows of cells: what their work asks for, and what is done once they have worked.
use Rattle.std.specs.Prelude.{ℕ, ◌+◌, ◌*◌, ◌<◌, ◌≤◌, ◌≡◌, List, length}
use Rattle.systolic.specs.Cell.{Cell}
use Rattle.turns.specs.Layout.{words_at}
use Rattle.turns.specs.Turn.{Phase, step_of}
use Rattle.turns.specs.declared.turn.Turn.{Turn}

-- Row i of the planes l, whose first cell has turn s.
pub record Row (n count i : ℕ) (s : Turn) (l : List ℕ) : Type 0 where
  pub most : n ≤ 32
  pub few : count ≤ 16
  pub row : i < n
  pub below : s.point < n
  pub least : 1 ≤ s.pass
  pub long : length l ≡ 3 * (n * n)

-- The rows from ≤ i < to of the planes l, of which the first has turn s; the turn of the row after them is past pass 0 too.
pub record Rows (n count from to : ℕ) (s : Turn) (l : List ℕ) : Type 0 where
  pub most : n ≤ 32
  pub few : count ≤ 16
  pub order : from ≤ to
  pub fits : to ≤ n
  pub below : s.point < n
  pub late : n + to ≤ step_of n s + from
  pub long : length l ≡ 3 * (n * n)

-- The cells of these rows have worked, by row, column, pass and point; those of the others are as they were.
pub record Done (work : ℕ → ℕ → ℕ → ℕ → Cell → Cell) (n u : ℕ) (old : List ℕ) (from to : ℕ) (new : List ℕ) : Type 0 where
  pub size : length new ≡ length old
  pub inside : (i j pass k : ℕ) → from ≤ i → i < to → j < n → Phase n u i j pass k
      → words_at n new i j ≡ work i j pass k (words_at n old i j)
  pub before : (i j : ℕ) → i < from → j < n → words_at n new i j ≡ words_at n old i j
  pub after : (i j : ℕ) → to ≤ i → i < n → j < n → words_at n new i j ≡ words_at n old i j
