-- The walk over the lines of a file: what holds after each, and what it says of the whole file.
use Prim.Native.Nat.{ℕ, zero, suc, ◌+◌, ◌-◌, ◌<◌, ◌≤◌}
use native.Mathlib.Omega.{arith}
use mathlib.Core.Path.{◌≡◌, refl, sym, ap, subst, ◌∙◌}
use mathlib.Core.Logic.{◌≢◌}
use mathlib.Core.List.{List, [], ◌∷◌, ◌++◌, append-nil, append_assoc}
use mathlib.Core.Bool.{true, false}
use lib.Dec.{eqb}
use lib.ListN.{length, take, drop, length-drop, drop_of_length-le}
use lib.Seq.{take_all, drop-drop}
use borrow.Author.Tests.{eq-eqb, ne_eqb}
use Rattle.std.proofs.Common.{Result, Ok, Err}
use Rattle.refusals.specs.Tests.{first}
use Rattle.refusals.specs.Reason.{reason_number}
use Rattle.refusals.specs.declared.Reason.{Reason}
use Rattle.refusals.proofs.Reasons.{reason_some}
use Rattle.refusals.proofs.First.{First, answers}
use Rattle.text.specs.Pieces.{cut, lines}
use Rattle.text.proofs.Cuts.{first_line}
use Rattle.road_form.specs.declared.forms.Arc.{Arc}
use Rattle.road_form.specs.declared.forms.Line.{Line}
use Rattle.road_form.specs.declared.forms.Line.TheVariants.{Comment, Problem, Arc as ArcLine, Unknown}
use Rattle.road_form.specs.declared.forms.Said.{Said}
use Rattle.road_form.specs.inner.Says.{LineSaid}
use Rattle.road_form.specs.Forms.{form_of}
use Rattle.road_table.specs.inner.Held.{Holds}
use Rattle.road_text.specs.declared.progress.Progress.{Progress}
use Rattle.road_text.specs.Steps.{start, after, end_tests}
use Rattle.road_text.specs.Reading.{RoadReading, refused, accepted, unless, follow, arcs_of, arcs_in}
use Rattle.road_text.specs.inner.Kept.{Kept, Passed, Stepped, Ended, Filled, Followed}

-- tests that gave a number, and tests that gave none
unless_not_zero : (k : ℕ) (r : RoadReading) → k ≢ 0 → unless k r ≡ refused k
unless_not_zero zero r h = absurd (h refl)
unless_not_zero (suc k) r h = refl

pub unless_some : (reason : Reason) (r : RoadReading) → unless (reason_number reason) r ≡ refused (reason_number reason)
unless_some reason r = unless_not_zero (reason_number reason) r (reason_some reason)

-- whether the `p` line has been read
pub no_points : {n : ℕ} → n < 1 → eqb n 0 ≡ true
no_points {n} h = eq-eqb n 0 (omega arith)

pub some_points : {n : ℕ} → 1 ≤ n → eqb n 0 ≡ false
some_points {n} h = ne_eqb n 0 (λ e. omega arith)

-- the end of the file
module _ {s : Progress} where
  pub ended_refused : {reason : Reason} → First 0 (end_tests s) (reason_number reason) → Ended s (Err reason)
  unfolding follow
  ended_refused {reason} found = record {
    outcome = sym (ap (λ (x : ℕ). unless x (accepted s.points)) (answers found) ∙ unless_some reason (accepted s.points));
  }

  pub ended_points : First 0 (end_tests s) 0 → Ended s (Ok s.points)
  unfolding follow
  ended_points found = record { outcome = sym (ap (λ (x : ℕ). unless x (accepted s.points)) (answers found)) }

end_filled : (s : Progress) {arcs : List Arc} {table : List ℕ} → Holds s.points arcs table → Filled (follow [] s) arcs table
unfolding follow
end_filled s {arcs} {table} h = by (first 0 (end_tests s))
  where
    by : (k : ℕ) → Filled (unless k (accepted s.points)) arcs table
    by zero = h
    by (suc k) = tt

-- A line counts once at most.
count_after : (s : Progress) (f : Line) → (after s f).count ≤ s.count + 1
count_after s Comment = omega arith
count_after s Unknown = omega arith
count_after s (Problem points arcs) = omega arith
count_after s (ArcLine a) = omega arith

-- the lines from a place on
abbrev lines_from : ℕ → List ℕ → List (List ℕ)
lines_from from file = lines (drop from file)

-- `read_lines`: the lines before `from` have been read
pub record Reached (file table₀ table : List ℕ) (s : Progress) (from : ℕ) : Type 0 where
  pub seen : List Arc
  pub kept : Kept seen s table
  pub follows : follow (lines_from from file) s ≡ follow (lines file) start
  pub arcs : arcs_in (lines file) ≡ seen ++ arcs_in (lines_from from file)
  pub below : s.count ≤ from
  pub size : length table ≡ length table₀

module _ {file table₀ table : List ℕ} {s : Progress} {from : ℕ} (r : Reached file table₀ table s from) where
  -- a line more, from the bytes that are lent
  module _ {said : Said} (h : from < length file) (l : LineSaid (take (length file - from) (drop from file)) said) where
    abbrev rest : List ℕ
    rest = drop from file

    lent : take (length file - from) rest ≡ rest
    lent = take_all (length file - from) (drop from file) (rw (length-drop from file) (omega arith))

    in_rest : LineSaid rest said
    in_rest = subst (λ (x : List ℕ). LineSaid x said) lent l

    within : from + said.end ≤ length file
    within = omega (arith, in_rest.ends.most, length-drop from file)

    abbrev line : List ℕ
    line = take said.end rest

    abbrev later : List (List ℕ)
    later = lines_from (from + said.end + 1) file

    split : lines_from from file ≡ line ∷ later
    split =
        let z : from + (said.end + 1) ≡ from + said.end + 1 = omega arith in
        first_line rest said.end (rw (length-drop from file) (omega arith)) in_rest.ends
        ∙ ap (λ (x : List ℕ). line ∷ lines x) (drop-drop (said.end + 1) from file ∙ ap (λ (k : ℕ). drop k file) z)

    followed_one : follow (line ∷ later) s ≡ follow (lines file) start
    followed_one = ap (λ (ls : List (List ℕ)). follow ls s) (sym split) ∙ r.follows

    module _ {next : Result Progress Reason} {new : List ℕ} (stepped : Stepped s said.line table next new) where
      step : Stepped s (form_of line) table next new
      step = subst (λ (x : Line). Stepped s x table next new) in_rest.says.is stepped

      pub reached_one : {t : Progress} → next ≡ Ok t → length new ≡ length table → Reached file table₀ new t (from + (said.end + 1))
      unfolding follow arcs_in
      reached_one {t} e same =
          let z : from + (said.end + 1) ≡ from + said.end + 1 = omega arith in
          let p : Passed s (form_of line) table t new = step.goes t e in
          rw z (record {
            seen = r.seen ++ arcs_of (form_of line);
            kept = p.kept r.seen r.kept;
            follows = ap (follow later) p.state
                ∙ sym (ap (λ (x : ℕ). unless x (follow later (after s (form_of line)))) p.clear)
                ∙ followed_one;
            arcs = r.arcs
                ∙ ap (λ (ls : List (List ℕ)). r.seen ++ arcs_in ls) split
                ∙ sym (append_assoc r.seen (arcs_of (form_of line)) (arcs_in later));
            below = rw p.state (omega (arith, count_after s (form_of line), r.below, in_rest.ends.least));
            size = same ∙ r.size;
          })

      pub stopped_here : {reason : Reason} → next ≡ Err reason → length new ≡ length table → Followed file (Err reason) new
      unfolding follow
      stopped_here {reason} e size =
          let is : refused (reason_number reason) ≡ follow (lines file) start
          = sym (unless_some reason (follow later (after s (form_of line))))
          ∙ ap (λ (x : ℕ). unless x (follow later (after s (form_of line)))) (sym (step.stops reason e))
          ∙ followed_one in
          record { size = size ∙ r.kept.room; outcome = is; memory = subst (λ (x : RoadReading). Filled x (arcs_in (lines file)) new) is tt }

  -- all lines
  pub reached_end : {answer : Result ℕ Reason} → length file ≤ from → Ended s answer → Followed file answer table
  unfolding lines cut arcs_in
  reached_end {answer} h e = record { size = r.kept.room; outcome = e.outcome ∙ whole; memory = filled }
    where
      none : lines_from from file ≡ []
      none = rw (drop_of_length-le file h)

      whole : follow [] s ≡ follow (lines file) start
      whole = ap (λ (ls : List (List ℕ)). follow ls s) (sym none) ∙ r.follows

      all : r.seen ≡ arcs_in (lines file)
      all = sym (append-nil r.seen) ∙ ap (λ (ls : List (List ℕ)). r.seen ++ arcs_in ls) (sym none) ∙ sym r.arcs

      filled : Filled (follow (lines file) start) (arcs_in (lines file)) table
      filled = subst (λ (x : RoadReading). Filled x (arcs_in (lines file)) table) whole (subst (λ (arcs : List Arc). Filled (follow [] s) arcs table) all (end_filled s r.kept.holds))
