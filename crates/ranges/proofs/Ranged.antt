-- What lies between two tables closes between their eliminations; and what a planner reads off them.
use Prim.Native.Nat.{ℕ, ◌<◌, ◌*◌}
use native.Mathlib.Omega.{arith}
use mathlib.Core.Path.{◌≡◌, refl, sym, ◌∙◌}
use mathlib.Core.List.{List}
use lib.ListN.{length, get_or}
use Rattle.semiring.specs.Algebra.{Word}
use Rattle.semiring.specs.Named.{named_of}
use Rattle.semiring.specs.declared.Algebra.{Algebra}
use Rattle.semiring.proofs.Order.{AsGood, good_trans, not_bettered}
use Rattle.closure.specs.Table.{entries}
use Rattle.closure.specs.Elimination.{closure, eliminated}
use Rattle.closure.specs.Ways.{Way}
use Rattle.closure.specs.Tests.{elimination_tests}
use Rattle.closure.specs.claims.Demand.{Best, word_over}
use Rattle.closure.proofs.Accepted.{Accepted, accepts}
use Rattle.closure.proofs.Demand.{closure_best, closure_unbettered}
use Rattle.closure.proofs.Holds.{row_by_row_holds}
use Rattle.closure.proofs.Monotone.{closure_good, words_good, monotone}
use Rattle.ranges.specs.Between.{TableBetween}
use Rattle.ranges.specs.Tests.{range_tests, closed_after}
use Rattle.ranges.specs.claims.Ranged.{Ranged, Planned, RangeClosed, RangePlanned}
use Rattle.ranges.proofs.Accepted.{RangeAccepted, range_accepted}
use Rattle.ranges.proofs.Between.{between_words}
use Rattle.std.specs.Prelude.{Option, Some as Known, None as Unknown}

-- the entries that an accepted call leaves
left : (a : Algebra) (n : ℕ) (w : List ℕ) (i j : ℕ) → i < n → j < n → entries n (eliminated a n w) i j ≡ closure a n w i j
unfolding eliminated
left a n w i j hi hj = (row_by_row_holds n (closure a n w)).word i j hi hj

module _ {a : Algebra} {n : ℕ} {best worst r s : List ℕ} (input : RangeAccepted a n best worst r s) where
  best_between : TableBetween a n best worst best
  best_between = record {
    size = input.first.weights;
    words = λ p h. input.first.words p;
    links = λ i j hi hj d. record { best_holds = λ b. b.0 refl; worst_holds = λ b. input.order (i, j, hi, hj, d, b) };
  }

  worst_between : TableBetween a n best worst worst
  worst_between = record {
    size = input.second.weights;
    words = λ p h. input.second.words p;
    links = λ i j hi hj d. record { best_holds = λ b. input.order (i, j, hi, hj, d, b); worst_holds = λ b. b.0 refl };
  }

  module _ {w : List ℕ} (between : TableBetween a n best worst w) where
    words : (p : ℕ) → Word a (get_or w p 0)
    words = between_words between

    accepted_between : (t : List ℕ) → length t ≡ n * n → elimination_tests (Known a) n w t ≡ 0
    accepted_between t fits =
        let other : Accepted a n w t = record {
          least = input.first.least;
          most = input.first.most;
          weights = between.size;
          result = fits;
          words = words;
        } in
        accepts other

    best_good : (i j : ℕ) → i < n → j < n → AsGood a (closure a n best i j) (closure a n w i j)
    best_good = closure_good a n best w input.first.words words (λ i j hi hj d. (between.links i j hi hj d).best_holds)

    worst_words : {i j : ℕ} {l : List ℕ} → Way n i j l → AsGood a (word_over a n w l) (word_over a n worst l)
    worst_words = words_good a n w worst words input.second.words (λ i j hi hj d. (between.links i j hi hj d).worst_holds)

  pub ranged : Ranged a n best worst (eliminated a n best) (eliminated a n worst)
  ranged = record {
    taken = λ w t between fits. accepted_between between t fits;
    inside = λ w between i j hi hj.
        let one = accepts input.first in
        let two = accepts input.second in
        let other = accepted_between between r input.first.result in
        rw (left a n best i j hi hj, left a n worst i j hi hj)
        (record {
          best_holds = monotone a n best w r r one other (λ i j hi hj d. (between.links i j hi hj d).best_holds) i j hi hj;
          worst_holds = monotone a n w worst r s other two (λ i j hi hj d. (between.links i j hi hj d).worst_holds) i j hi hj;
        });
    best_between = best_between;
    best_reached = λ i j hi hj. sym (left a n best i j hi hj);
    worst_between = worst_between;
    worst_reached = λ i j hi hj. sym (left a n worst i j hi hj);
  }

  pub planned : (i j : ℕ) → i < n → j < n
      → Planned a n best worst i j (entries n (eliminated a n best) i j) (entries n (eliminated a n worst) i j)
  planned i j hi hj =
      let first : Best a n best i j (closure a n best i j) = closure_best a n best input.first.words hi hj in
      let second : Best a n worst i j (closure a n worst i j) = closure_best a n worst input.second.words hi hj in
      let (l, way, once, e) = first.attained in
      let (l', way', once', e') = second.attained in
      rw (left a n best i j hi hj, left a n worst i j hi hj)
      (record {
        hope_attained = (best, best_between, l, way, once, sym e);
        hope_unbettered = λ w between l way.
            not_bettered (good_trans (best_good between i j hi hj) (closure_unbettered a n w (words between) way));
        fear_held = (
          l',
          way',
          once',
          λ w between. rw e' (not_bettered (worst_words between way')),
        );
        fear_reached = (worst, worst_between, λ l way. second.unbettered l way);
      })

-- What an accepted call leaves.
accepted_call : (d : Option Algebra) (n : ℕ) (best worst r s : List ℕ) → range_tests d n best worst r s ≡ 0
    → (a : Algebra) × (d ≡ Known a) × RangeAccepted a n best worst r s
    × (closed_after d 0 n best r ≡ eliminated a n best)
    × (closed_after d 0 n worst s ≡ eliminated a n worst)
accepted_call Unknown n best worst r s e = absurd (omega arith)
accepted_call (Known a) n best worst r s e = (a, refl, range_accepted e, refl, refl)

pub range_closed : RangeClosed
range_closed algebra n best worst r s r' s' given =
    let (a, known, input, first, second) = accepted_call (named_of algebra) n best worst r s (sym given.outcome) in
    (a, known, rw (given.best_memory ∙ first, given.worst_memory ∙ second) (ranged input))

pub range_planned : RangePlanned
range_planned algebra n best worst r s r' s' given =
    let (a, known, input, first, second) = accepted_call (named_of algebra) n best worst r s (sym given.outcome) in
    (a, known, λ i j hi hj. rw (given.best_memory ∙ first, given.worst_memory ∙ second) (planned input i j hi hj))
