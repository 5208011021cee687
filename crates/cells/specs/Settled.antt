-- The cells' work once a and b hold what came in.
use Rattle.std.specs.Prelude.{ℕ, ◌+◌, ◌*◌, ◌<◌, ◌≤◌, ◌≡◌, List, true, cond, ltb, length, get_or}
use Rattle.semiring.specs.Algebra.{none_word_of, sum_of, product_of}
use Rattle.semiring.specs.declared.Algebra.{Algebra}
use Rattle.systolic.specs.Cell.{Cell}
use Rattle.turns.specs.Turn.{live, begins, pass_in, Phase, step_of}
use Rattle.turns.specs.Layout.{words_at}
use Rattle.turns.specs.declared.columns.Columns.{Columns}
use Rattle.turns.specs.declared.turn.Turn.{Turn}
use Rattle.cells.specs.Work.{worked}

-- c at place p of planes of an area, with the product of what came in.
abbrev pub added : Algebra → ℕ → List ℕ → ℕ → ℕ → ℕ
added algebra area l p word = sum_of algebra word (product_of algebra (get_or l (p + area) 0) (get_or l (p + 2 * area) 0))

-- The row at place `at`, whose first cell has turn s: c of the cell at point 0 has started as none, if that is in pass 0 of a job.
pub record Begun (algebra : Algebra) (count at : ℕ) (s : Turn) (old new : List ℕ) : Type 0 where
  pub size : length new ≡ length old
  pub start : begins count s.pass ≡ true → get_or new (at + s.point) 0 ≡ none_word_of algebra
  pub kept : (p : ℕ) → (p ≡ at + s.point → begins count s.pass ≡ true → ⊥) → get_or new p 0 ≡ get_or old p 0

-- The plane that is `plane` words after c has taken c in the columns j of a span with f j ≡ x, of the row at place `at`.
pub record Took (f : ℕ → ℕ) (x plane at : ℕ) (span : Columns) (old new : List ℕ) : Type 0 where
  pub size : length new ≡ length old
  pub put : (j : ℕ) → span.from ≤ j → j < span.to → f j ≡ x → get_or new (plane + (at + j)) 0 ≡ get_or old (at + j) 0
  pub kept : (p : ℕ) → ((j : ℕ) → span.from ≤ j → j < span.to → f j ≡ x → p ≡ plane + (at + j) → ⊥) → get_or new p 0 ≡ get_or old p 0

-- The column r of row i whose point is i, of a row whose first cell is at point k.
pub record Column (n i k r : ℕ) : Type 0 where
  pub within : r < n
  pub here : r ≤ k → i + r ≡ k
  pub behind : k < r → i + r ≡ k + n

-- The algebra of row i, of rows in two: those up to a point, and the others.
abbrev pub row_algebra : Algebra → Algebra → ℕ → ℕ → Algebra
row_algebra here behind point i = cond (ltb i (point + 1)) here behind

-- All cells, of which the first has turn `head`.
pub record Settled (here behind : Algebra) (n count : ℕ) (head : Turn) (old new : List ℕ) : Type 0 where
  pub size : length new ≡ length old
  pub cell : (i j pass k : ℕ) → i < n → j < n → Phase n (step_of n head) i j pass k
      → words_at n new i j
      ≡ (let x : Cell = words_at n old i j in
      cond (live count pass) (worked (row_algebra here behind head.point i) (pass_in pass) k i j x.a x.b x.c) x)
