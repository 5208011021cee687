-- What the search for a way asks, and what it leaves.
use Rattle.std.specs.Prelude.{ℕ, ◌*◌, ◌≤◌, ◌<◌, ◌≡◌, List, ◌++◌, length, get_or, drop}
use Rattle.semiring.specs.Algebra.{Word}
use Rattle.semiring.specs.declared.Algebra.{Algebra}
use Rattle.closure.specs.Table.{entries}
use Rattle.closure.specs.Elimination.{eliminated}
use Rattle.ways.specs.Given.{Attains}

-- The links w, their closed table c, two points inside and a list of n words.
pub record Sought (a : Algebra) (n : ℕ) (w c : List ℕ) (from to : ℕ) (list : List ℕ) : Type 0 where
  pub most : n ≤ 128
  pub links : length w ≡ n * n
  pub words : (p : ℕ) → Word a (get_or w p 0)
  pub closed : c ≡ eliminated a n w
  pub room : length list ≡ n
  pub from_inside : from < n
  pub to_inside : to < n

-- A way stands at the front of the list, and the words after it are as they were.
pub record Found (a : Algebra) (n : ℕ) (w c : List ℕ) (from to : ℕ) (list list' : List ℕ) (count : ℕ) : Type 0 where
  pub points : List ℕ
  pub attains : Attains a n w from to (entries n c from to) points
  pub carried : count ≡ length points
  pub memory : list' ≡ points ++ drop (length points) list
