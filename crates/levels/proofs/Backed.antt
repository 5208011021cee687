-- A search from the target alone, and what the search that ended says of the closed table.
use Prim.Native.Nat.{ℕ, ◌+◌, ◌≤◌, ◌<◌}
use native.Mathlib.Omega.{arith}
use native.Mathlib.Decide.{dec_lt}
use mathlib.Core.Path.{◌≡◌, sym, ap, ◌∙◌}
use mathlib.Core.Logic.{inl, inr}
use mathlib.Core.List.{List}
use mathlib.Core.Bool.{true}
use lib.Dec.{leb}
use lib.ListN.{length, get_or, set, replicate, length-set, length-replicate, get_or-replicate, get_or-eq_default}
use lib.Seq.{get_or-set_same, get_or-set_other}
use borrow.Author.Tests.{leb-true}
use Rattle.semiring.specs.Algebra.{product_of}
use Rattle.closure.specs.Elimination.{closure, eliminated}
use Rattle.closure.proofs.Holds.{row_by_row_holds}
use Rattle.ways.specs.Given.{Attains}
use Rattle.ways.specs.inner.Levels.{Step, Levels, Saturated, Follows}
use Rattle.ways.specs.inner.Sought.{Sought, Found}
use Rattle.ways.proofs.Follow.{way_inside, way_short}
use Rattle.ways.proofs.Levelled.{all_levelled, leads, leads_some, most_levels}
use Rattle.ways.proofs.Reading.{closed_entry}
use Rattle.levels.specs.declared.backwards.Search.{Search}
use Rattle.levels.specs.declared.backwards.Mark.{Mark}
use Rattle.levels.specs.inner.Marks.{no_mark, level_of, next_of}
use Rattle.levels.specs.inner.Search.{link, closed_to, JoinedBelow, Searched, Ended}
use Rattle.levels.specs.inner.Follow.{Ahead, Written}

abbrev unmarked : ℕ → List Mark
unmarked m = replicate m no_mark

unmarked_at : (m p : ℕ) → get_or (unmarked m) p no_mark ≡ no_mark
unmarked_at m p =
    elim (dec_lt p m) [
      | yes h ↦ get_or-replicate m p no_mark no_mark h
      | no h ↦ get_or-eq_default (unmarked m) no_mark {n = p} (omega (arith, length-replicate m no_mark))
    ]

-- The target's mark; what follows it is never read.
abbrev first_mark : ℕ → Mark
first_mark x = record { level = 1; next = x }

module _ (q : Search) {list : List ℕ} {from : ℕ} (g : Sought q.algebra q.size q.links.now q.closed.now from q.target list) where
  -- the target alone has a level, among m marks
  pub begins : (m x : ℕ) → q.size ≤ m → leb m 65536 ≡ true → Searched q 1 (set (unmarked m) q.target (first_mark x))
  unfolding eliminated
  begins m x h small = record {
    standing = record {
      lent = record {
        most = g.most;
        inside = g.to_inside;
        links = g.links;
        closed = ap length g.closed ∙ (row_by_row_holds q.size (closure q.algebra q.size q.links.now)).size;
        room = omega (arith, size);
        few = omega (arith, size, leb-true m 65536 small);
      };
      certificate = record { target = first; falls = λ {v} b s f. absurd (omega (arith, other v f)) };
    };
    least = omega arith;
    joined = λ u b s k. absurd (omega arith);
  }
    where
      size : length (set (unmarked m) q.target (first_mark x)) ≡ m
      size = length-set (unmarked m) q.target (first_mark x) ∙ length-replicate m no_mark

      first : level_of (set (unmarked m) q.target (first_mark x)) q.target ≡ 1
      first =
          ap (λ (k : Mark). k.level)
          (get_or-set_same (unmarked m) q.target (first_mark x) no_mark (omega (arith, length-replicate m no_mark, g.to_inside)))

      other : (v : ℕ) → (v ≡ q.target → ⊥) → level_of (set (unmarked m) q.target (first_mark x)) v ≡ 0
      other v f =
          ap (λ (k : Mark). k.level) (get_or-set_other (unmarked m) q.target v (first_mark x) no_mark f ∙ unmarked_at m v)

  entry : {v : ℕ} → v < q.size → closed_to q v ≡ closure q.algebra q.size q.links.now v q.target
  entry h = closed_entry q.algebra q.size q.links.now g.closed h g.to_inside

  -- Levels over the lent closed table are levels over the elimination.
  over : {level next : ℕ → ℕ} → Levels q.algebra q.size (link q) (closed_to q) q.target level next
      → Levels q.algebra q.size (link q) (λ v. closure q.algebra q.size q.links.now v q.target) q.target level next
  over {level} {next} k = record {
    target = k.target;
    falls = λ {v} h r f.
        let s : Step q.algebra q.size (link q) (closed_to q) level v (next v) = k.falls h r f in
        record {
          inside = s.inside;
          levelled = s.levelled;
          below = s.below;
          word = sym (entry h) ∙ s.word ∙ ap (product_of q.algebra (link q v (next v))) (entry s.inside);
        };
  }

  module _ {marks : List Mark} (s : Ended q from marks) where
    certificate : Levels q.algebra q.size (link q) (λ v. closure q.algebra q.size q.links.now v q.target) q.target (level_of marks) (next_of marks)
    certificate = over s.standing.certificate

    saturated : JoinedBelow q (q.size + 1) marks → Saturated q.algebra q.size (link q) (λ v. closure q.algebra q.size q.links.now v q.target) (level_of marks)
    saturated joined u h r v b e =
        let most : level_of marks u ≤ q.size = most_levels q.algebra q.size q.links.now g.words g.to_inside certificate h r in
        joined u h r (omega arith) v b (entry b ∙ e ∙ ap (product_of q.algebra (link q v u)) (sym (entry h)))

    levelled : 1 ≤ level_of marks from
    levelled =
        elim s.enough [
          | inl r ↦ r
          | inr joined ↦
              all_levelled q.algebra q.size q.links.now g.words g.to_inside (level_of marks) (omega (arith, s.standing.certificate.target))
              (saturated joined) from g.from_inside
        ]

    attains : {points : List ℕ} → Follows (next_of marks) q.target from points → Attains q.algebra q.size q.links.now from q.target (closed_to q from) points
    attains k = rw (entry g.from_inside) (leads q.algebra q.size q.links.now g.words g.to_inside certificate g.from_inside levelled k)

    pub ahead : Ahead q.target marks from list
    ahead =
        let (points, k) = leads_some q.algebra q.size q.links.now g.words g.to_inside certificate g.from_inside levelled in
        let f : Attains q.algebra q.size q.links.now from q.target (closed_to q from) points = attains k in
        record {
          points = points;
          follows = k;
          inside = λ x b. let h : x < q.size = way_inside f.way b in omega (arith, s.standing.lent.room);
          most = s.standing.lent.few;
          fits = omega (arith, way_short f.way f.once, g.room);
          small = omega (arith, g.room, g.most);
        }

    pub found : {list' : List ℕ} {count : ℕ} → Written q.target marks from list list' count → Found q.algebra q.size q.links.now q.closed.now from q.target list list' count
    found k = record { points = k.points; attains = attains k.follows; carried = k.carried; memory = k.memory }
