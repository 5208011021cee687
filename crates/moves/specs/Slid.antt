-- a moved one place on and b one row down in the cells that make a step, the rows from i on.
use Rattle.std.specs.Prelude.{ℕ, ◌+◌, ◌-◌, ◌*◌, ◌<◌, ◌≤◌, ◌≡◌, List, true, cond, length, get_or}
use Rattle.turns.specs.Turn.{live, Phase}

-- What comes into row 0 of b is not said.
pub record Slid (n count u : ℕ) (old : List ℕ) (i : ℕ) (new : List ℕ) : Type 0 where
  pub size : length new ≡ length old
  pub a : (m j pass k : ℕ) → i ≤ m → m < n → j < n → Phase n u m j pass k
      → get_or new (n * n + (m * n + j)) 0
      ≡ cond (live count pass) (get_or old (n * n + (m * n + j) - 1) 0) (get_or old (n * n + (m * n + j)) 0)
  pub b : (m j pass k : ℕ) → i ≤ m → m < n → j < n → Phase n u m j pass k → (live count pass ≡ true → 1 ≤ m)
      → get_or new (2 * (n * n) + (m * n + j)) 0
      ≡ cond (live count pass) (get_or old (2 * (n * n) + (m * n + j) - n) 0) (get_or old (2 * (n * n) + (m * n + j)) 0)
  pub a_rest : (p : ℕ) → p < n * n + i * n → get_or new p 0 ≡ get_or old p 0
  pub b_rest : (p : ℕ) → 2 * (n * n) ≤ p → p < 2 * (n * n) + i * n → get_or new p 0 ≡ get_or old p 0
