-- What a call gives, read off the list's memory after it.
use Rattle.std.specs.Prelude.{ℕ, ◌≤◌, ◌≡◌, List, [], ◌∷◌, take, drop}
use Rattle.semiring.specs.Algebra.{Betters}
use Rattle.semiring.specs.Named.{named_of}
use Rattle.semiring.specs.declared.Algebra.{Algebra}
use Rattle.closure.specs.Table.{entries}
use Rattle.closure.specs.Ways.{Way}
use Rattle.closure.specs.claims.Demand.{word_over}
use Rattle.ways.specs.Given.{Attains, WayGiven, WayGivenHost}
use Rattle.std.specs.Prelude.{Some as Known}

-- The first `count` words are a way of the closed entry's word, which no way betters; the words after them are as they were.
pub record ReadOff (a : Algebra) (n : ℕ) (w c : List ℕ) (from to count : ℕ) (list list' : List ℕ) : Type 0 where
  pub attains : Attains a n w from to (entries n c from to) (take count list')
  pub unbettered : (l : List ℕ) → Way n from to l → Betters a (word_over a n w l) (entries n c from to) → ⊥
  pub after : drop count list' ≡ drop count list
  pub least : 1 ≤ count
  pub most : count ≤ n
  pub alone : from ≡ to → take count list' ≡ from ∷ []

-- Of an accepted call.
abbrev pub WayRead : Type 0
WayRead =
    (count algebra n : ℕ) (w c : List ℕ) (from to : ℕ) (list list' : List ℕ)
    → WayGiven 0 count algebra n w c from to list list'
    → (a : Algebra) × (named_of algebra ≡ Known a) × ReadOff a n w c from to count list list'

-- A refused call leaves the list as it was.
abbrev pub WayKept : Type 0
WayKept =
    (number count algebra n : ℕ) (w c : List ℕ) (from to : ℕ) (list list' : List ℕ)
    → WayGiven number count algebra n w c from to list list' → (number ≡ 0 → ⊥) → (list' ≡ list) × (count ≡ 0)

-- The same of the call for other languages, with the length that was stored; a refused call leaves that too.
abbrev pub WayReadHost : Type 0
WayReadHost =
    (algebra n : ℕ) (w c : List ℕ) (from to : ℕ) (list list' : List ℕ) (stored stored' : ℕ)
    → WayGivenHost 0 algebra n w c from to list list' stored stored'
    → (a : Algebra) × (named_of algebra ≡ Known a) × ReadOff a n w c from to stored' list list'

abbrev pub WayKeptHost : Type 0
WayKeptHost =
    (number algebra n : ℕ) (w c : List ℕ) (from to : ℕ) (list list' : List ℕ) (stored stored' : ℕ)
    → WayGivenHost number algebra n w c from to list list' stored stored' → (number ≡ 0 → ⊥) → (list' ≡ list) × (stored' ≡ stored)
