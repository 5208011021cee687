-- The tables that are closed and printed.
use Rattle.std.specs.Prelude.{ℕ, ◌*◌, ◌≤◌, ◌≡◌, List, length, get_or}

-- A table of n points, at most 128.
pub record Square (n : ℕ) (table : List ℕ) : Type 0 where
  pub most : n ≤ 128
  pub words : length table ≡ n * n

-- What the elimination's tests ask of a table and of the room for the closed one.
pub record ToClose (n : ℕ) (table closed : List ℕ) : Type 0 where
  pub least : 1 ≤ n
  pub most : n ≤ 128
  pub table_fits : length table ≡ n * n
  pub closed_fits : length closed ≡ n * n
  pub words : (p : ℕ) → get_or table p 0 ≤ 65535

-- The two buffers.
pub record Rooms (table closed : List ℕ) : Type 0 where
  pub table_room : length table ≡ 16384
  pub closed_room : length closed ≡ 16384
