-- What the search q for levels keeps, over its links and its closed table and the marks of the points.
use Rattle.std.specs.Prelude.{ℕ, ◌+◌, ◌*◌, ◌≤◌, ◌<◌, ◌≡◌, ◌⊎◌, List, length}
use Rattle.semiring.specs.Algebra.{product_of}
use Rattle.closure.specs.Table.{entries, with_own}
use Rattle.ways.specs.inner.Levels.{Levels}
use Rattle.levels.specs.declared.backwards.Search.{Search}
use Rattle.levels.specs.inner.Marks.{level_of, next_of}
use Rattle.levels.specs.declared.backwards.Mark.{Mark}

-- The links between points, each point's own one as the elimination takes it.
abbrev pub link : Search → ℕ → ℕ → ℕ
link q = with_own q.algebra (entries q.size q.links.now)

-- The closed entry of a point to the target.
abbrev pub closed_to : Search → ℕ → ℕ
closed_to q v = entries q.size q.closed.now v q.target

-- The lengths of the memories, and a target inside.
pub record Lent (q : Search) (marks : List Mark) : Type 0 where
  pub most : q.size ≤ 128
  pub inside : q.target < q.size
  pub links : length q.links.now ≡ q.size * q.size
  pub closed : length q.closed.now ≡ q.size * q.size
  pub room : q.size ≤ length marks
  pub few : length marks ≤ 65536

abbrev pub LevelsIn : Search → List Mark → Type 0
LevelsIn q marks =
    Levels q.algebra q.size (link q) (closed_to q) q.target (level_of marks) (next_of marks)

-- The link from v to u keeps v's word.
abbrev pub Keeps : Search → ℕ → ℕ → Type 0
Keeps q u v = closed_to q v ≡ product_of q.algebra (link q v u) (closed_to q u)

-- Every point whose link to u keeps its word has a level.
abbrev pub JoinedIn : Search → List Mark → ℕ → Type 0
JoinedIn q marks u = (v : ℕ) → v < q.size → Keeps q u v → 1 ≤ level_of marks v

-- Every point of a level below r was joined.
abbrev pub JoinedBelow : Search → ℕ → List Mark → Type 0
JoinedBelow q r marks = (u : ℕ) → u < q.size → 1 ≤ level_of marks u → level_of marks u < r → JoinedIn q marks u

-- Before a part of the search.
pub record Standing (q : Search) (marks : List Mark) : Type 0 where
  pub lent : Lent q marks
  pub certificate : LevelsIn q marks

-- After it: a certificate still; a level once given stays, and each new one is above r.
pub record Grown (q : Search) (r : ℕ) (marks marks' : List Mark) : Type 0 where
  pub size : length marks' ≡ length marks
  pub certificate : LevelsIn q marks'
  pub kept : (v : ℕ) → 1 ≤ level_of marks v → level_of marks' v ≡ level_of marks v
  pub fresh : (v : ℕ) → level_of marks' v ≤ r → level_of marks' v ≡ level_of marks v

-- Point u is to be joined, if its level is r.
pub record Met (q : Search) (r u : ℕ) (marks : List Mark) : Type 0 where
  pub standing : Standing q marks
  pub least : 1 ≤ r
  pub most : r ≤ q.size
  pub u_inside : u < q.size

pub record Linked (q : Search) (r u : ℕ) (marks marks' : List Mark) : Type 0 where
  pub grown : Grown q r marks marks'
  pub joined : level_of marks u ≡ r → JoinedIn q marks' u

-- Point v is to be seen from point u of level r.
pub record Seen (q : Search) (r u v : ℕ) (marks : List Mark) : Type 0 where
  pub met : Met q r u marks
  pub v_inside : v < q.size
  pub u_level : level_of marks u ≡ r

pub record Visited (q : Search) (r u v : ℕ) (marks marks' : List Mark) : Type 0 where
  pub grown : Grown q r marks marks'
  pub levelled : Keeps q u v → 1 ≤ level_of marks' v

-- The levels below r are done.
pub record Searched (q : Search) (r : ℕ) (marks : List Mark) : Type 0 where
  pub standing : Standing q marks
  pub least : 1 ≤ r
  pub joined : JoinedBelow q r marks

-- One level more.
pub record LevelDone (q : Search) (r : ℕ) (marks marks' : List Mark) : Type 0 where
  pub grown : Grown q r marks marks'
  pub searched : Searched q (r + 1) marks'

-- The search ends where `from` has a level, or every level was done.
pub record Ended (q : Search) (from : ℕ) (marks : List Mark) : Type 0 where
  pub standing : Standing q marks
  pub enough : (1 ≤ level_of marks from) ⊎ JoinedBelow q (q.size + 1) marks
