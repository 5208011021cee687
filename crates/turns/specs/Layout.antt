-- The planes c, a and b, n by n words each, one after another in one memory.
use Rattle.std.specs.Prelude.{ℕ, ◌+◌, ◌*◌, ◌≡◌, List, length, get_or, take, drop}
use Rattle.systolic.specs.Cell.{Planes, Cell}
use Rattle.turns.specs.Turn.{Head}
use Rattle.turns.specs.declared.turn.Turn.{Turn}

-- The registers of cell (i, j).
abbrev pub words_at : ℕ → List ℕ → ℕ → ℕ → Cell
words_at n l i j = record {
  c = get_or l (i * n + j) 0;
  a = get_or l (n * n + (i * n + j)) 0;
  b = get_or l (2 * (n * n) + (i * n + j)) 0;
}

-- Plane m of the memory, and the planes.
abbrev pub plane_in : ℕ → ℕ → List ℕ → List ℕ
plane_in n m l = take (n * n) (drop (m * (n * n)) l)

abbrev pub planes_in : ℕ → List ℕ → Planes
planes_in n l = record { c = plane_in n 0 l; a = plane_in n 1 l; b = plane_in n 2 l }

-- The planes, on the tick of the turn of cell (0, 0).
pub record Lent (n count : ℕ) (s : Turn) (planes : List ℕ) : Type 0 where
  pub turn : Head n count s
  pub long : length planes ≡ 3 * (n * n)
