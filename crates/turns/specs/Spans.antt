-- The cells of a row or an edge whose pass meets a test: cell j is j steps behind the first.
use Rattle.std.specs.Prelude.{ℕ, ◌+◌, ◌*◌, ◌<◌, ◌≤◌, ◌≡◌, Bool, true, false, cond}
use Rattle.turns.specs.Turn.{pass_in}
use Rattle.turns.specs.declared.columns.Columns.{Columns}
use Rattle.turns.specs.declared.band.Band.{Band}

-- Those of a row whose first cell is at step u.
pub record Spans (n : ℕ) (test : ℕ → Bool) (u : ℕ) (r : Columns) : Type 0 where
  pub order : r.from ≤ r.to
  pub within : r.to ≤ n
  pub inside : (j pass k : ℕ) → r.from ≤ j → j < r.to → k < n → n * pass + k + j ≡ u → test pass ≡ true
  pub before : (j pass k : ℕ) → j < r.from → k < n → n * pass + k + j ≡ u → test pass ≡ false
  pub after : (j pass k : ℕ) → r.to ≤ j → j < n → k < n → n * pass + k + j ≡ u → test pass ≡ false

-- A row's columns up to k are in one pass, the others in the pass before: where its span begins and ends, by the answer for each.
pub record Parted (n k : ℕ) (here behind : Bool) (r : Columns) : Type 0 where
  pub from : r.from ≡ cond here 0 (k + 1)
  pub to : r.to ≡ cond behind n (k + 1)

-- Those in pass p of a job, of an edge whose first cell is at step u.
pub record Banded (n p u : ℕ) (r : Band) : Type 0 where
  pub order : r.from ≤ r.to
  pub within : r.to ≤ n
  pub points : r.to ≤ r.last + 1
  pub inside : (j pass k : ℕ) → r.from ≤ j → j < r.to → k < n → n * pass + k + j ≡ u → (pass_in pass ≡ p) × (k + j ≡ r.last)
  pub before : (j pass k : ℕ) → j < r.from → k < n → n * pass + k + j ≡ u → pass_in pass ≡ p → ⊥
  pub after : (j pass k : ℕ) → r.to ≤ j → j < n → k < n → n * pass + k + j ≡ u → pass_in pass ≡ p → ⊥
