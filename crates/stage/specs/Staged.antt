-- What stands in an array of order n on tick t of a list of jobs.
use Rattle.std.specs.Prelude.{ℕ, ◌+◌, ◌-◌, ◌*◌, ◌≡◌, List, length}
use Rattle.turns.specs.Turn.{Head, step_of}
use Rattle.stage.specs.declared.stage.Stage.{Stage}
use Rattle.stage.specs.Found.{Found}

pub record Staged (n t : ℕ) (algebras sizes : List ℕ) (s : Stage) : Type 0 where
  pub tick : s.tick ≡ t
  pub head : Head n (length sizes) s.head
  pub step : step_of n s.head ≡ t + 4 * n
  pub front : Found algebras sizes s.head.pass s.front
  pub middle : Found algebras sizes (s.head.pass - 1) s.middle
  pub back : Found algebras sizes (s.head.pass - 2) s.back
