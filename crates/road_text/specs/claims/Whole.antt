-- K7: what an accepted file holds, and what the table after it says of its `a` lines, with no minimum over the arcs of a pair in it.
use Rattle.std.specs.Prelude.{ℕ, suc, ◌+◌, ◌*◌, ◌-◌, ◌<◌, ◌≤◌, ◌≡◌, ◌≢◌, List, [], ◌∷◌, length, get_or}
use Rattle.text.specs.Pieces.{lines}
use Rattle.road_form.specs.declared.forms.Arc.{Arc as ArcSaid}
use Rattle.road_form.specs.declared.forms.Line.TheVariants.{Comment, Problem, Arc}
use Rattle.road_form.specs.Forms.{form_of}
use Rattle.road_table.specs.claims.Shortest.{Shortest}
use Rattle.road_text.specs.Reading.{accepted, road_reading_of, arcs_in, table_after}

abbrev pub InRange : ℕ → ℕ → Type 0
InRange n i = (1 ≤ i) × (i ≤ n)

-- Lines after the `p` line of n points: comments, and arcs from point to point, so many.
pub data ArcLines (n : ℕ) : List (List ℕ) → ℕ → Type 0 where
  ends : ArcLines n [] 0
  comment_between : {l : List ℕ} {ls : List (List ℕ)} {count : ℕ} → form_of l ≡ Comment → ArcLines n ls count → ArcLines n (l ∷ ls) count
  arc : {l : List ℕ} {ls : List (List ℕ)} {count : ℕ} {a : ArcSaid} → form_of l ≡ Arc a → InRange n a.from → InRange n a.to → ArcLines n ls count
      → ArcLines n (l ∷ ls) (suc count)

-- "one line `p sp POINTS ARCS` before all arcs", and nothing but comments before it.
pub data RoadLines (n : ℕ) : List (List ℕ) → Type 0 where
  comment_before : {l : List ℕ} {ls : List (List ℕ)} → form_of l ≡ Comment → RoadLines n ls → RoadLines n (l ∷ ls)
  problem : {l : List ℕ} {ls : List (List ℕ)} {arcs : ℕ} → form_of l ≡ Problem n arcs → InRange 128 n → ArcLines n ls arcs → RoadLines n (l ∷ ls)

-- Word (i, j) of a memory whose rows have n words, points counted from 1.
abbrev pub word_at : ℕ → List ℕ → ℕ → ℕ → ℕ
word_at n table i j = get_or table ((i - 1) * n + (j - 1)) 0

-- The table of n points in a buffer.
pub record Roads (n : ℕ) (arcs : List ArcSaid) (table : List ℕ) : Type 0 where
  pub size : length table ≡ 16384
  pub diagonal : (i : ℕ) → InRange n i → word_at n table i i ≡ 0
  pub pair : (i j : ℕ) → InRange n i → InRange n j → i ≢ j → Shortest arcs i j (word_at n table i j)
  pub rest : (q : ℕ) → n * n ≤ q → q < 16384 → get_or table q 0 ≡ 0

-- A file is accepted with POINTS n exactly where its lines are such.
pub record AcceptedExactly (file : List ℕ) (n : ℕ) : Type 0 where
  pub lines_are : road_reading_of 16384 file ≡ accepted n → RoadLines n (lines file)
  pub accepts : RoadLines n (lines file) → road_reading_of 16384 file ≡ accepted n
  pub roads : road_reading_of 16384 file ≡ accepted n → Roads n (arcs_in (lines file)) (table_after 16384 file)

abbrev pub RoadWhole : Type 0
RoadWhole = (file : List ℕ) (n : ℕ) → AcceptedExactly file n
