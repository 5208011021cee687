-- K7: "Of several arcs for a pair the shortest stands": what a word of the table says of the arcs, with no minimum over them in it.
use Rattle.std.specs.Prelude.{ℕ, ◌≤◌, ◌≡◌, ◌⊎◌, ◌≢◌}
use mathlib.Core.List.{List, Memᴰ}
use Rattle.semiring.specs.declared.Algebra.TheVariants.{Distance}
use Rattle.semiring.specs.Algebra.{none_word_of}
use Rattle.road_form.specs.declared.forms.Arc.{Arc}
use Rattle.road_table.specs.Table.{held, entry}

-- An arc of the list from i to j.
pub record Joining (arcs : List Arc) (i j : ℕ) : Type 0 where
  pub arc : Arc
  pub there : Memᴰ arc arcs
  pub from_i : arc.from ≡ i
  pub to_j : arc.to ≡ j

-- The word of a pair: no arc between them is shorter, and it is the length of one, or none where there is none; a pair that has an arc is never none.
pub record Shortest (arcs : List Arc) (i j word : ℕ) : Type 0 where
  pub no_shorter : (g : Joining arcs i j) → word ≤ held g.arc.length
  pub one_of_lem : ((g : Joining arcs i j) × (word ≡ held g.arc.length)) ⊎ ((word ≡ none_word_of Distance) × (Joining arcs i j → ⊥))
  pub never_none : Joining arcs i j → word ≢ none_word_of Distance

abbrev pub EachShortest : Type 0
EachShortest = (arcs : List Arc) (i j : ℕ) → i ≢ j → Shortest arcs i j (entry arcs i j)
