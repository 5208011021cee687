-- What following the successors asks and leaves.
use Rattle.std.specs.Prelude.{ℕ, ◌≤◌, ◌<◌, ◌≡◌, List, ◌++◌, length, drop}
use Rattle.closure.specs.Ways.{Visits}
use Rattle.ways.specs.inner.Levels.{Follows}
use Rattle.levels.specs.declared.backwards.Mark.{Mark}
use Rattle.levels.specs.inner.Marks.{next_of}

-- From v the successors lead to the target over points that the list has room for, and each has a successor.
pub record Ahead (to : ℕ) (marks : List Mark) (v : ℕ) (list : List ℕ) : Type 0 where
  pub points : List ℕ
  pub follows : Follows (next_of marks) to v points
  pub inside : (x : ℕ) → Visits x points → x < length marks
  pub most : length marks ≤ 65536
  pub fits : length points ≤ length list
  pub small : length list ≤ 65536

-- The points followed stand at the front of the memory, the rest is as it was.
pub record Written (to : ℕ) (marks : List Mark) (from : ℕ) (old new : List ℕ) (count : ℕ) : Type 0 where
  pub points : List ℕ
  pub follows : Follows (next_of marks) to from points
  pub carried : count ≡ length points
  pub memory : new ≡ points ++ drop (length points) old
