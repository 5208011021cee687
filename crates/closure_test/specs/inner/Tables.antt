-- What the comparison with the elimination asks: two tables of a size that a room has words for.
use Rattle.std.specs.Prelude.{ℕ, ◌*◌, ◌≤◌, ◌≡◌, List, length}

pub record Tables (n most : ℕ) (w c : List ℕ) : Type 0 where
  pub fits : n ≤ most
  pub links : length w ≡ n * n
  pub table : length c ≡ n * n
