-- What the moves are lent: the planes c, a and b, n by n words each, and the edges, n words for the top of the array and n for its left.
use Rattle.std.specs.Prelude.{ℕ, ◌*◌, ◌≤◌, ◌≡◌, List, length}

-- The planes and the edges.
pub record WithEdges (n : ℕ) (planes edges : List ℕ) : Type 0 where
  pub most : n ≤ 32
  pub wide : 2 * n ≤ length edges
  pub long : length planes ≡ 3 * (n * n)

-- The planes and the left edge's words of the rows from `from` to `to`.
pub record LeftEdged (n from to : ℕ) (left planes : List ℕ) : Type 0 where
  pub most : n ≤ 32
  pub order : from ≤ to
  pub within : to ≤ n
  pub wide : to ≤ length left
  pub long : length planes ≡ 3 * (n * n)
