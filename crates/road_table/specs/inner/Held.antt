-- A buffer that holds the table of some arcs, and what each function does to it.
use Rattle.std.specs.Prelude.{ℕ, ◌+◌, ◌*◌, ◌<◌, ◌≤◌, ◌≡◌, ◌≢◌, List, [], ◌∷◌, ◌++◌, length, get_or}
use Rattle.road_form.specs.declared.forms.Arc.{Arc}
use Rattle.road_table.specs.Table.{word_of}

pub record Holds (n : ℕ) (arcs : List Arc) (l : List ℕ) : Type 0 where
  pub word : (q : ℕ) → q < length l → get_or l q 0 ≡ word_of n arcs q

-- A buffer of m words that was cleared: the table of no points.
pub record Cleared (m : ℕ) (l : List ℕ) : Type 0 where
  pub size : length l ≡ m
  pub zeros : Holds 0 [] l

-- Room for a table.
pub record Room (n : ℕ) (l : List ℕ) : Type 0 where
  pub few : n ≤ 128
  pub room : n * n ≤ length l

-- The first i words of the diagonal are 0, the other words as they were.
pub record DiagonalCleared (n i : ℕ) (old new : List ℕ) : Type 0 where
  pub size : length new ≡ length old
  pub on : (k : ℕ) → k < i → get_or new (k * n + k) 0 ≡ 0
  pub off : (q : ℕ) → ((k : ℕ) → k < i → q ≢ k * n + k) → get_or new q 0 ≡ get_or old q 0

-- A table with no arc yet, laid over zeros.
pub record Begun (n : ℕ) (old new : List ℕ) : Type 0 where
  pub size : length new ≡ length old
  pub holds : Holds 0 [] old → Holds n [] new

-- Both ends of an arc are points.
pub record Within (n : ℕ) (a : Arc) : Type 0 where
  pub from_least : 1 ≤ a.from
  pub from_most : a.from ≤ n
  pub to_least : 1 ≤ a.to
  pub to_most : a.to ≤ n

-- What it takes to join an arc.
pub record Joinable (n : ℕ) (a : Arc) (l : List ℕ) : Type 0 where
  pub room : Room n l
  pub within : Within n a

-- A table with an arc more.
pub record Joined (n : ℕ) (a : Arc) (old new : List ℕ) : Type 0 where
  pub size : length new ≡ length old
  pub holds : (arcs : List Arc) → Holds n arcs old → Holds n (arcs ++ (a ∷ [])) new
