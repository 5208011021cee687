-- What an accepted file is known to have: words of distance in its table, and in the buffer's first words that table.
use Prim.Native.Nat.{ℕ, ◌+◌, ◌*◌, ◌/◌, ◌%◌, ◌<◌, ◌≤◌}
use native.Mathlib.Omega.{arith}
use native.Mathlib.Decide.{dec_lt}
use mathlib.Core.Path.{◌≡◌, ap, ◌∙◌}
use mathlib.Core.List.{List}
use mathlib.Core.Bool.{Bool, true, false, cond}
use lib.Dec.{eqb, ltb}
use lib.ListN.{length, get_or, take, length-take, get_or-eq_default}
use lib.Seq.{length-take-le, get_or-take}
use Rattle.memory.specs.Lists.{list_of}
use Rattle.memory.proofs.Geometry.{square_fits}
use Rattle.memory.proofs.ListOf.{length_list_of, get_d_list_of, is_list_of}
use Rattle.text.specs.Pieces.{lines}
use Rattle.road_form.specs.declared.forms.Arc.{Arc as ArcSaid}
use Rattle.road_table.specs.Table.{lengths, least, entry, word_of}
use Rattle.road_table.proofs.Shortest.{least_most}
use Rattle.road_text.specs.Reading.{RoadReading, refused, accepted, road_reading_of, arcs_in, word_in, table_after}
use Rattle.road_sheet.specs.Sheet.{road_table}

-- Every word of a table is at most none.
word_most : (n : ℕ) (arcs : List ArcSaid) (q : ℕ) → word_of n arcs q ≤ 65535
unfolding word_of
word_most n arcs q = outer (ltb q (n * n))
  where
    inner : (b : Bool) (ls : List ℕ) → cond b 0 (least ls) ≤ 65535
    inner true ls = omega arith
    inner false ls = least_most ls

    outer : (b : Bool) → cond b (entry arcs (q / n + 1) (q % n + 1)) 0 ≤ 65535
    outer true = inner (eqb (q / n + 1) (q % n + 1)) (lengths (q / n + 1) (q % n + 1) arcs)
    outer false = omega arith

in-most : (r : RoadReading) (arcs : List ArcSaid) (q : ℕ) → word_in r arcs q ≤ 65535
in-most (refused number) arcs q = omega arith
in-most (accepted points) arcs q = word_most points arcs q

listed_most : (m : ℕ) (f : ℕ → ℕ) → ((q : ℕ) → f q ≤ 65535) → (p : ℕ) → get_or (list_of m f) p 0 ≤ 65535
listed_most m f most p = by (dec_lt p m)
  where
    by : Dec (p < m) → get_or (list_of m f) p 0 ≤ 65535
    by (yes h) = rw (get_d_list_of m f p h) (most p)
    by (no h) =
        let past : length (list_of m f) ≤ p = rw (length_list_of m f) (omega arith) in
        rw (get_or-eq_default (list_of m f) 0 past) (omega arith)

-- the first words of a list of such words
front_most : (k : ℕ) (l : List ℕ) → ((p : ℕ) → get_or l p 0 ≤ 65535) → (p : ℕ) → get_or (take k l) p 0 ≤ 65535
front_most k l most p = by (dec_lt p k)
  where
    by : Dec (p < k) → get_or (take k l) p 0 ≤ 65535
    by (yes h) = rw (get_or-take k l p 0 h) (most p)
    by (no h) = let past : length (take k l) ≤ p = omega (arith, length-take k l) in rw (get_or-eq_default (take k l) 0 past) (omega arith)

pub table_words : (k m : ℕ) (file : List ℕ) (p : ℕ) → get_or (take k (table_after m file)) p 0 ≤ 65535
table_words k m file =
    front_most k (table_after m file)
    (listed_most m (word_in (road_reading_of m file) (arcs_in (lines file))) (in-most (road_reading_of m file) (arcs_in (lines file))))

-- The table itself is the one of the file's arcs.
front_listed : (k m : ℕ) (f : ℕ → ℕ) → k ≤ m → take k (list_of m f) ≡ list_of k f
front_listed k m f h =
    let long : length (take k (list_of m f)) ≡ k = length-take-le k (list_of m f) (rw (length_list_of m f) h) in
    is_list_of k f (take k (list_of m f)) long (λ p g. get_or-take k (list_of m f) p 0 g ∙ get_d_list_of m f p (omega arith))

pub road_table_lem : (file : List ℕ) (n : ℕ) → n ≤ 128 → road_reading_of 16384 file ≡ accepted n
    → road_table n file ≡ list_of (n * n) (word_of n (arcs_in (lines file)))
road_table_lem file n h e =
    front_listed (n * n) 16384 (word_in (road_reading_of 16384 file) (arcs_in (lines file))) (square_fits h)
    ∙ ap (λ (r : RoadReading). list_of (n * n) (word_in r (arcs_in (lines file)))) e
