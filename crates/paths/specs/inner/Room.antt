-- What the byte call lends to its rooms: byte slices whose lengths fit a size, and a size that the room has words for.
use Rattle.std.specs.Prelude.{ℕ, ◌*◌, ◌≤◌, ◌≡◌, List, length}

pub record Fit (n most : ℕ) (weights result : List ℕ) : Type 0 where
  pub size_fits : n ≤ most
  pub weights_fit : length weights ≡ 2 * (n * n)
  pub result_fit : length result ≡ 2 * (n * n)
