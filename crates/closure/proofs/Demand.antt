-- Demand 2: each entry of the elimination of an accepted table is attained and not bettered.
use Prim.Native.Nat.{ℕ, ◌<◌, ◌+◌, ◌*◌}
use native.Mathlib.Omega.{arith}
use mathlib.Core.Path.{◌≡◌, refl}
use mathlib.Core.List.{List}
use lib.ListN.{get_or}
use Rattle.semiring.specs.Algebra.{Word}
use Rattle.semiring.specs.declared.Algebra.{Algebra}
use Rattle.semiring.specs.Named.{named_of}
use Rattle.semiring.proofs.Order.{AsGood, good_antisym, not_bettered}
use Rattle.closure.specs.Elimination.{closure, eliminated}
use Rattle.closure.specs.Tests.{elimination_tests, result_after}
use Rattle.closure.specs.Ways.{Way}
use Rattle.closure.specs.claims.Demand.{word_over, Best, Demand2, Demand2Result}
use Rattle.closure.proofs.Holds.{row_by_row_holds}
use Rattle.closure.proofs.Ways.{unbettered, attained}
use Rattle.closure.proofs.Simple.{simple}
use Rattle.closure.proofs.Links.{words_links}
use Rattle.closure.proofs.Accepted.{Accepted, accepted, accepted_result}
use Rattle.std.specs.Prelude.{Option, Some as Known, None as Unknown}

-- Of any table of words, accepted or not: some way attains each entry, and no way betters it.
module _ (a : Algebra) (n : ℕ) (w : List ℕ) (words : (p : ℕ) → Word a (get_or w p 0)) {i j : ℕ} where
  closure_attained : i < n → j < n → (l : List ℕ) × Way n i j l × (closure a n w i j ≡ word_over a n w l)
  unfolding closure
  closure_attained hi hj = attained (words_links a n w words) _ (omega arith) hi hj

  pub closure_unbettered : {l : List ℕ} → Way n i j l → AsGood a (closure a n w i j) (word_over a n w l)
  unfolding closure
  closure_unbettered way = unbettered (words_links a n w words) way

  -- The way that attains the entry has its repeats cut out: it gets no worse, and no better than the entry.
  pub closure_best : i < n → j < n → Best a n w i j (closure a n w i j)
  closure_best hi hj =
      let (l, way, e) = closure_attained hi hj in
      let (l', way', once, good) = simple (words_links a n w words) way in
      record {
        attained = (l', way', once, good_antisym (closure_unbettered way') (rw e good));
        unbettered = λ l way. not_bettered (closure_unbettered way);
      }

pub demand2 : Demand2
demand2 a n w r e i j hi hj =
    let input : Accepted a n w r = accepted e in
    closure_best a n w input.words hi hj

best_result : (d : Option Algebra) (n : ℕ) (w r : List ℕ) → elimination_tests d n w r ≡ 0
    → (a : Algebra) × (d ≡ Known a)
    × ((i j : ℕ) → i < n → j < n → Best a n w i j (get_or (result_after d n w r) (i * n + j) 0))
unfolding eliminated
best_result Unknown n w r e = absurd (omega arith)
best_result (Known a) n w r e = (
  a,
  refl,
  λ i j hi hj.
      rw (accepted_result a n w r e, (row_by_row_holds n (closure a n w)).word i j hi hj) (demand2 a n w r e i j hi hj),
)

pub demand2_result : Demand2Result
demand2_result number = best_result (named_of number)
