-- An accepted file: its `p` line, its arcs, and the words of its table.
use Prim.Native.Nat.{ℕ, zero, suc, ◌+◌, ◌*◌, ◌-◌, ◌≤◌}
use native.Mathlib.Omega.{arith}
use mathlib.Core.Path.{◌≡◌, refl, sym, ap, ap₂, ◌∙◌}
use mathlib.Core.Bool.{false, true≢false}
use mathlib.Core.List.{List, [], ◌∷◌}
use lib.Dec.{eqb}
use borrow.Author.Tests.{eq-eqb, ne_eqb}
use Rattle.memory.specs.Lists.{list_of}
use Rattle.memory.proofs.Geometry.{square_fits}
use Rattle.memory.proofs.ListOf.{length_list_of, get_d_list_of}
use Rattle.refusals.specs.Tests.{first, outside}
use Rattle.refusals.proofs.First.{none_applied, inside, equal, within}
use Rattle.text.specs.Pieces.{lines}
use Rattle.road_form.specs.declared.forms.Arc.{Arc as ArcSaid}
use Rattle.road_form.specs.declared.forms.Line.{Line}
use Rattle.road_form.specs.declared.forms.Line.TheVariants.{Comment, Problem, Arc, Unknown}
use Rattle.road_form.specs.Forms.{form_of}
use Rattle.road_table.specs.Table.{entry, word_of}
use Rattle.road_table.specs.inner.Held.{Within}
use Rattle.road_table.proofs.Words.{word_at_lem, word_past, in-square}
use Rattle.road_table.proofs.Shortest.{each_shortest}
use Rattle.road_text.specs.declared.progress.Progress.{Progress}
use Rattle.road_text.specs.Steps.{start, line_tests, after, end_tests}
use Rattle.road_text.specs.Reading.{RoadReading, accepted, unless, follow, buffer_tests, road_reading_of, arcs_in}
use Rattle.road_text.specs.claims.Whole.{InRange, ArcLines, ends, comment_between, arc, RoadLines, comment_before, problem, word_at, Roads, RoadWhole}

passed : (k : ℕ) (r : RoadReading) (n : ℕ) → unless k r ≡ accepted n → (k ≡ 0) × (r ≡ accepted n)
passed zero r n e = (refl, e)
passed (suc k) r n e = let z : ◌≡◌ {A = ℕ} 0 1 = cc in absurd (omega arith)

-- The lines after the `p` line.
record Rest (s : Progress) (n : ℕ) (ls : List (List ℕ)) : Type 0 where
  count : ℕ
  arcs : ArcLines n ls count
  points : s.points ≡ n
  all : s.count + count ≡ s.arcs

module _ (l : List ℕ) (ls : List (List ℕ)) (s : Progress) (n : ℕ) (some : 1 ≤ s.points) where
  rest_by : (f : Line) → form_of l ≡ f → first 0 (line_tests s f) ≡ 0 → follow ls (after s f) ≡ accepted n
      → ((t : Progress) → 1 ≤ t.points → follow ls t ≡ accepted n → Rest t n ls) → Rest s n (l ∷ ls)
  rest_by Comment e clear is later =
      let r = later s some is in
      record { count = r.count; arcs = comment_between e r.arcs; points = r.points; all = r.all }
  rest_by Unknown e clear is later = absurd (omega arith)
  rest_by (Problem p m) e clear is later =
      let (early, more) = none_applied (line_tests s (Problem p m)) refl clear in
      absurd (omega (arith, equal s.points 0 early))
  rest_by (Arc a) e clear is later =
      let (early, (from, (to, more))) = none_applied (line_tests s (Arc a)) refl clear in
      let r = later (after s (Arc a)) some is in
      record {
        count = suc r.count;
        arcs = arc e (rw (← r.points) (inside from)) (rw (← r.points) (inside to)) r.arcs;
        points = r.points;
        all = omega (arith, r.all);
      }

lines_rest : (ls : List (List ℕ)) (s : Progress) (n : ℕ) → 1 ≤ s.points → follow ls s ≡ accepted n → Rest s n ls
unfolding follow
lines_rest [] s n some e =
    let (clear, is) = passed (first 0 (end_tests s)) (accepted s.points) n e in
    let (early, (count, more)) = none_applied (end_tests s) refl clear in
    record { count = 0; arcs = ends; points = accepted_same is; all = omega (arith, equal s.count s.arcs count) }
  where
    accepted_same : {i j : ℕ} → accepted i ≡ accepted j → i ≡ j
    accepted_same e = cc
lines_rest (l ∷ ls) s n some e =
    let (clear, is) = passed (first 0 (line_tests s (form_of l))) (follow ls (after s (form_of l))) n e in
    rest_by l ls s n some (form_of l) refl clear is (λ t h f. lines_rest ls t n h f)

-- The lines up to the `p` line.
module _ (l : List ℕ) (ls : List (List ℕ)) (s : Progress) (n : ℕ) (none : s.points ≡ 0) where
  road_by : (f : Line) → form_of l ≡ f → first 0 (line_tests s f) ≡ 0 → follow ls (after s f) ≡ accepted n → (follow ls s ≡ accepted n → RoadLines n ls)
      → RoadLines n (l ∷ ls)
  road_by Comment e clear is later = comment_before e (later is)
  road_by Unknown e clear is later = absurd (omega arith)
  road_by (Arc a) e clear is later =
      let (early, more) = none_applied (line_tests s (Arc a)) refl clear in
      absurd (true≢false (sym (eq-eqb s.points 0 none) ∙ early))
  road_by (Problem p m) e clear is later =
      let (early, (range, more)) = none_applied (line_tests s (Problem p m)) refl clear in
      let r : Rest (after s (Problem p m)) n ls = lines_rest ls (after s (Problem p m)) n (inside range).0 is in
      let arcs_are : r.count ≡ m = omega (arith, r.all) in
      problem (e ∙ ap₂ Problem r.points (sym arcs_are)) (rw (← r.points) (inside range)) r.arcs

road_lines : (ls : List (List ℕ)) (s : Progress) (n : ℕ) → s.points ≡ 0 → follow ls s ≡ accepted n → RoadLines n ls
unfolding follow
road_lines [] s n none e =
    let (clear, is) = passed (first 0 (end_tests s)) (accepted s.points) n e in
    let (early, more) = none_applied (end_tests s) refl clear in
    absurd (true≢false (sym (eq-eqb s.points 0 none) ∙ early))
road_lines (l ∷ ls) s n none e =
    let (clear, is) = passed (first 0 (line_tests s (form_of l))) (follow ls (after s (form_of l))) n e in
    road_by l ls s n none (form_of l) refl clear is (λ h. road_lines ls s n none h)

lines_are : (m : ℕ) (file : List ℕ) (n : ℕ) → road_reading_of m file ≡ accepted n → RoadLines n (lines file)
unfolding road_reading_of
lines_are m file n e = road_lines (lines file) start n refl (passed (first 0 (buffer_tests m)) (follow (lines file) start) n e).1

points_of : {n : ℕ} {ls : List (List ℕ)} → RoadLines n ls → InRange 128 n
points_of (comment_before e r) = points_of r
points_of (problem e h a) = h

pub accepted_points : (m : ℕ) (file : List ℕ) (n : ℕ) → road_reading_of m file ≡ accepted n → InRange 128 n
accepted_points m file n e = points_of (lines_are m file n e)

-- And back: such lines are accepted.
arcs_accepted : {n count : ℕ} {ls : List (List ℕ)} → ArcLines n ls count → (s : Progress) → s.points ≡ n → 1 ≤ n → s.count + count ≡ s.arcs
    → follow ls s ≡ accepted n
unfolding follow
arcs_accepted {n} ends s p some all =
    let none : eqb s.points 0 ≡ false = ne_eqb s.points 0 (λ z. omega arith) in
    let counted : s.count ≡ s.arcs = omega arith in
    rw (none, eq-eqb s.count s.arcs counted) (ap accepted p)
arcs_accepted (comment_between e a) s p some all = rw e (arcs_accepted a s p some all)
arcs_accepted {n} (arc {a = a} e from to more) s p some all =
    let none : eqb s.points 0 ≡ false = ne_eqb s.points 0 (λ z. omega arith) in
    let f : outside 1 s.points a.from ≡ false = within 1 s.points a.from from.0 (omega (arith, from.1)) in
    let t : outside 1 s.points a.to ≡ false = within 1 s.points a.to to.0 (omega (arith, to.1)) in
    rw (e, none, f, t) (arcs_accepted more (after s (Arc a)) p some (omega arith))

road_accepted : {n : ℕ} {ls : List (List ℕ)} → RoadLines n ls → follow ls start ≡ accepted n
unfolding follow
road_accepted (comment_before e r) = rw e (road_accepted r)
road_accepted {n} (problem {arcs = m} e h a) =
    let range : outside 1 128 n ≡ false = within 1 128 n h.0 h.1 in
    rw (e, range) (arcs_accepted a (after start (Problem n m)) refl h.0 (omega arith))

accepts : (file : List ℕ) (n : ℕ) → RoadLines n (lines file) → road_reading_of 16384 file ≡ accepted n
unfolding road_reading_of
accepts file n r = road_accepted r

-- The words of its table.
module _ (n : ℕ) (arcs : List ArcSaid) (few : n ≤ 128) where
  all : List ℕ
  all = list_of 16384 (word_of n arcs)

  square : n * n ≤ 16384
  square = square_fits few

  word : (i j : ℕ) → InRange n i → InRange n j → word_at n all i j ≡ entry arcs i j
  unfolding all
  word i j (a, b) (c, d) =
      let w : Within n (record { from = i; to = j; length = 0 }) = record { from_least = a; from_most = b; to_least = c; to_most = d } in
      get_d_list_of 16384 (word_of n arcs) ((i - 1) * n + (j - 1)) (omega (arith, in-square w, square)) ∙ word_at_lem w arcs

  roads : Roads n arcs all
  unfolding all
  roads = record {
    size = length_list_of 16384 (word_of n arcs);
    diagonal = λ i h. word i i h h ∙ rw (eq-eqb i i refl);
    pair = λ i j h k d. rw (word i j h k) (each_shortest arcs i j d);
    rest = λ q h k. get_d_list_of 16384 (word_of n arcs) q k ∙ word_past n arcs q h;
  }

pub road_whole : RoadWhole
unfolding all
road_whole file n = record {
  lines_are = lines_are 16384 file n;
  accepts = accepts file n;
  roads = λ e. rw e (roads n (arcs_in (lines file)) (accepted_points 16384 file n e).1);
}
