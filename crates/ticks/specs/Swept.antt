-- The planes of the definition in one memory, through the steps of a tick.
use Rattle.std.specs.Prelude.{ℕ, ◌+◌, ◌*◌, ◌<◌, ◌≡◌, List, true, cond, get_or}
use Rattle.job_list.specs.Jobs.{Jobs, count}
use Rattle.systolic.specs.Cell.{Planes, Cell, cell_of, aIn, bIn}
use Rattle.systolic.specs.Tick.{cell_after}
use Rattle.turns.specs.declared.turn.Turn.{Turn}
use Rattle.turns.specs.Turn.{live, job_in, pass_in, Phase}
use Rattle.turns.specs.Layout.{words_at, Lent}
use Rattle.moves.specs.Lent.{WithEdges}

-- An array on `count` jobs, whose cell (0, 0) has turn s, with the words that come in at its edges.
pub record Sweeping (n count : ℕ) (s : Turn) (edges planes : List ℕ) : Type 0 where
  pub lent : Lent n count s planes
  pub room : WithEdges n planes edges

-- The memory l holds the planes r.
pub record Held (J : Jobs) (r : Planes) (l : List ℕ) : Type 0 where
  pub cell : (i j : ℕ) → i < J.order → j < J.order → words_at J.order l i j ≡ cell_of J r i j

-- What comes in on tick t over planes r.
pub record Edged (J : Jobs) (t : ℕ) (r : Planes) (edges : List ℕ) : Type 0 where
  pub top : (j pass k : ℕ) → j < J.order → Phase J.order (t + 4 * J.order) 0 j pass k → live (count J) pass ≡ true
      → get_or edges j 0 ≡ bIn J r (job_in pass) (pass_in pass) k 0 j
  pub left : (i pass k : ℕ) → i < J.order → Phase J.order (t + 4 * J.order) i 0 pass k → live (count J) pass ≡ true
      → get_or edges (J.order + i) 0 ≡ aIn J r (job_in pass) (pass_in pass) k i 0

-- Cell (i, j) with what comes in on a step, before it works.
abbrev pub come : Jobs → Planes → ℕ → ℕ → ℕ → ℕ → Cell
come J r pass k i j = record {
  c = (cell_of J r i j).c;
  a = aIn J r (job_in pass) (pass_in pass) k i j;
  b = bIn J r (job_in pass) (pass_in pass) k i j;
}

-- Live cells hold what comes in, the others their own words.
pub record Came (J : Jobs) (t : ℕ) (r : Planes) (l : List ℕ) : Type 0 where
  pub cell : (i j pass k : ℕ) → i < J.order → j < J.order → Phase J.order (t + 4 * J.order) i j pass k
      → words_at J.order l i j ≡ cond (live (count J) pass) (come J r pass k i j) (cell_of J r i j)

-- The tick is made.
pub record Made (J : Jobs) (t : ℕ) (r : Planes) (l : List ℕ) : Type 0 where
  pub cell : (i j : ℕ) → i < J.order → j < J.order → words_at J.order l i j ≡ cell_after J t r i j
