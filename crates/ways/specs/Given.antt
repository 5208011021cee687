-- Request K2: what a call gives.
use Rattle.std.specs.Prelude.{ℕ, ◌≡◌, List, [], ◌++◌, cond, eqb, length, drop}
use Rattle.semiring.specs.Named.{named_of}
use Rattle.semiring.specs.declared.Algebra.{Algebra}
use Rattle.closure.specs.Table.{entries}
use Rattle.closure.specs.Ways.{Way, NoRepeat}
use Rattle.closure.specs.claims.Demand.{word_over}
use Rattle.ways.specs.Tests.{way_tests}
use Rattle.std.specs.Prelude.{Option, Some as Known}

-- "a way from the first to the second with no point twice whose word is the closed entry", over the links w
pub record Attains (a : Algebra) (n : ℕ) (w : List ℕ) (from to entry : ℕ) (points : List ℕ) : Type 0 where
  pub way : Way n from to points
  pub once : NoRepeat points
  pub word : word_over a n w points ≡ entry

-- "Which list, among several such, is free": what holds of it. A refused call gives none.
pub record Free (d : Option Algebra) (n : ℕ) (w c : List ℕ) (from to : ℕ) (list points : List ℕ) : Type 0 where
  pub accepted : (a : Algebra) → d ≡ Known a → way_tests d n w c from to list ≡ 0 → Attains a n w from to (entries n c from to) points
  pub refused : (way_tests d n w c from to list ≡ 0 → ⊥) → points ≡ []

-- "It goes into a memory of n words, the result carries its length, and the words after it stay." `points` is the list that is free,
-- and the call's answer is its number and the length.
pub record WayGiven (number count algebra n : ℕ) (w c : List ℕ) (from to : ℕ) (list list' : List ℕ) : Type 0 where
  pub points : List ℕ
  pub free : Free (named_of algebra) n w c from to list points
  pub outcome : number ≡ way_tests (named_of algebra) n w c from to list
  pub carried : count ≡ length points
  pub memory : list' ≡ points ++ drop (length points) list

-- For other languages the number is returned, and the length stored where there is a way.
pub record WayGivenHost (number algebra n : ℕ) (w c : List ℕ) (from to : ℕ) (list list' : List ℕ) (stored stored' : ℕ) : Type 0 where
  pub count : ℕ
  pub given : WayGiven number count algebra n w c from to list list'
  pub written : stored' ≡ cond (eqb number 0) count stored
