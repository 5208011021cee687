-- Cards for request K2: a hall of four points with links 0→1 2, 0→2 1, 1→3 3, 2→3 4, in distance. From 0 to 3 there are two ways of
-- length 5, and no link.
use Rattle.std.specs.Prelude.{ℕ, ◌≡◌, List, [], ◌∷◌}
use Rattle.semiring.specs.Named.{named_of}
use Rattle.semiring.specs.declared.Algebra.TheVariants.{Distance}
use Rattle.closure.specs.Elimination.{eliminated}
use Rattle.ways.specs.Tests.{way_tests}
use Rattle.ways.specs.Given.{Attains}

abbrev pub hall : List ℕ
hall = 9 ∷ 2 ∷ 1 ∷ 65535 ∷ 65535 ∷ 9 ∷ 65535 ∷ 3 ∷ 65535 ∷ 65535 ∷ 9 ∷ 4 ∷ 65535 ∷ 65535 ∷ 65535 ∷ 9 ∷ []

abbrev pub closed_hall : List ℕ
closed_hall = 0 ∷ 2 ∷ 1 ∷ 5 ∷ 65535 ∷ 0 ∷ 65535 ∷ 3 ∷ 65535 ∷ 65535 ∷ 0 ∷ 4 ∷ 65535 ∷ 65535 ∷ 65535 ∷ 0 ∷ []

-- One word of it is another: the last, on the diagonal.
abbrev pub other_hall : List ℕ
other_hall = 0 ∷ 2 ∷ 1 ∷ 5 ∷ 65535 ∷ 0 ∷ 65535 ∷ 3 ∷ 65535 ∷ 65535 ∷ 0 ∷ 4 ∷ 65535 ∷ 65535 ∷ 65535 ∷ 9 ∷ []

abbrev pub number : ℕ → List ℕ → ℕ → ℕ → List ℕ → ℕ
number algebra closed from to list = way_tests (named_of algebra) 4 hall closed from to list

abbrev room : List ℕ
room = 9 ∷ 9 ∷ 9 ∷ 9 ∷ []

pub record WayCards : Type 0 where
  pub closed : eliminated Distance 4 hall ≡ closed_hall
  -- both ways of length 5 are right answers; the pair itself, which has no link, is not, nor is a way with a point twice
  pub accepted : number 1 closed_hall 0 3 room ≡ 0
  pub upper : Attains Distance 4 hall 0 3 5 (0 ∷ 1 ∷ 3 ∷ [])
  pub lower : Attains Distance 4 hall 0 3 5 (0 ∷ 2 ∷ 3 ∷ [])
  pub direct : Attains Distance 4 hall 0 3 5 (0 ∷ 3 ∷ []) → ⊥
  pub twice : Attains Distance 4 hall 0 3 5 (0 ∷ 1 ∷ 1 ∷ 3 ∷ []) → ⊥
  -- a point to itself
  pub alone : (number 1 closed_hall 2 2 room ≡ 0) × Attains Distance 4 hall 2 2 0 (2 ∷ [])
  -- none; with another closed table too, that comes first
  pub none : number 1 closed_hall 3 0 room ≡ 20
  pub other : number 1 other_hall 3 0 room ≡ 19
  -- a point outside, a list of three words or five, an algebra that is unknown
  pub outside : (number 1 closed_hall 4 0 room ≡ 19) × (number 1 closed_hall 0 4 room ≡ 19)
  pub short : number 1 closed_hall 0 3 (9 ∷ 9 ∷ 9 ∷ []) ≡ 19
  pub long : number 1 closed_hall 0 3 (9 ∷ 9 ∷ 9 ∷ 9 ∷ 9 ∷ []) ≡ 19
  pub unknown : number 3 closed_hall 0 3 room ≡ 1
