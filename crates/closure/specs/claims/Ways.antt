-- Document 01: "Points are 0 to n-1 .. A way from i to j is a list of points that begins with i and ends with j, repeats allowed. Its word is
-- the product of its links": said of the list by its places, with nothing else asked of it.
use Rattle.std.specs.Prelude.{ℕ, ◌-◌, ◌<◌, ◌≤◌, ◌≡◌, List, [], ◌∷◌, length, get_or}
use Rattle.semiring.specs.declared.Algebra.TheVariants.{Reach, Distance, Steepest}
use Rattle.closure.specs.Ways.{Way}
use Rattle.closure.specs.claims.Demand.{word_over}

pub record PointsFrom (n i j : ℕ) (l : List ℕ) : Type 0 where
  pub some : 1 ≤ length l
  pub points : (p : ℕ) → p < length l → get_or l p 0 < n
  pub begins : get_or l 0 0 ≡ i
  pub ends : get_or l (length l - 1) 0 ≡ j

pub record WayExactly (n i j : ℕ) (l : List ℕ) : Type 0 where
  pub is : Way n i j l → PointsFrom n i j l
  pub any : PointsFrom n i j l → Way n i j l

abbrev pub WaysExactly : Type 0
WaysExactly = (n i j : ℕ) (l : List ℕ) → WayExactly n i j l

-- Between two points, from 0 to 1 twice and back once. Every link counts, each time it is passed.
abbrev pub round_trip : List ℕ
round_trip = 0 ∷ 1 ∷ 0 ∷ 1 ∷ []

-- The links 0→1 5 and 1→0 3; the diagonal given is not 0.
abbrev pub two_points : List ℕ
two_points = 9 ∷ 5 ∷ 3 ∷ 9 ∷ []

pub record RepeatCards : Type 0 where
  pub way : Way 2 0 1 round_trip
  pub length_added : word_over Distance 2 two_points round_trip ≡ 13
  pub steepest : word_over Steepest 2 two_points round_trip ≡ 5
  pub reached : word_over Reach 2 (0 ∷ 1 ∷ 1 ∷ 0 ∷ []) round_trip ≡ 1
  -- A point after itself: "The diagonal given is never read as a link: it counts as the own word."
  pub still : word_over Distance 2 two_points (0 ∷ 0 ∷ 1 ∷ []) ≡ 5
