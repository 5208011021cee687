-- Lengths in distance. A way without a link of none has its length, held, as its word (induction on the list: a held sum is not none,
-- so the next sum is held too), and a way whose word is not none has no such link. The rest is demand 2.
use Prim.Native.Nat.{ℕ, ◌+◌, ◌*◌, ◌≤◌, ◌<◌, min}
use native.Mathlib.Omega.{arith}
use mathlib.Core.Path.{◌≡◌, refl, sym, ap, subst, ◌∙◌}
use mathlib.Core.Logic.{◌≢◌}
use mathlib.Core.List.{List, [], ◌∷◌}
use lib.ListN.{get_or}
use Rattle.semiring.specs.Algebra.{Word, none_word_of, far}
use Rattle.semiring.specs.declared.Algebra.TheVariants.{Distance}
use Rattle.semiring.proofs.Laws.{laws}
use Rattle.semiring.proofs.Held.{sum_held}
use Rattle.closure.specs.Table.{Table, entries, with_own}
use Rattle.closure.specs.Elimination.{closure, eliminated}
use Rattle.closure.specs.Tests.{elimination_tests, result_after}
use Rattle.closure.specs.Ways.{Way, way_word}
use Rattle.closure.specs.claims.Lengths.{AllLinked, length_of, Shortest, Lengths, LengthsResult}
use Rattle.closure.proofs.Accepted.{Accepted, accepted, accepted_result}
use Rattle.closure.proofs.Demand.{closure_best, closure_unbettered}
use Rattle.closure.proofs.Holds.{row_by_row_holds}
use Rattle.closure.proofs.Links.{Links, words_links}
use Rattle.closure.proofs.Ways.{way_word_lem}
use Rattle.std.specs.Prelude.{Some as Known}

module _ {t : Table} (links : Links Distance t) where
  linked_word : (l : List ℕ) → AllLinked t l → way_word Distance t l ≡ min (length_of t l) far
  unfolding way_word AllLinked length_of
  linked_word [] h = refl
  linked_word (i ∷ []) h = refl
  linked_word (i ∷ k ∷ l) h =
      let e : way_word Distance t (k ∷ l) ≡ min (length_of t (k ∷ l)) far = linked_word (k ∷ l) h.1 in
      sum_held h.0 (λ (f : way_word Distance t (k ∷ l) ≡ 65535). omega arith) ∙ rw e (omega arith)

  word_linked : (l : List ℕ) → way_word Distance t l ≢ none_word_of Distance → AllLinked t l
  unfolding way_word AllLinked
  word_linked [] h = tt
  word_linked (i ∷ []) h = tt
  word_linked (i ∷ k ∷ l) h = (
    λ e. h (rw e ((laws Distance).none_product (way_word_lem links (k ∷ l)))),
    word_linked (k ∷ l) (λ e. h (rw e ((laws Distance).product_none (links.word i k)))),
  )

module _ (n : ℕ) (w : List ℕ) (words : (p : ℕ) → Word Distance (get_or w p 0)) {i j : ℕ} where
  no_longer : (l : List ℕ) → Way n i j l → AllLinked (with_own Distance (entries n w)) l
      → closure Distance n w i j ≤ min (length_of (with_own Distance (entries n w)) l) far
  no_longer l way linked =
      let good = closure_unbettered Distance n w words way in
      omega (arith, good.eq, linked_word (words_links Distance n w words) l linked)

  shortest : i < n → j < n → Shortest n (with_own Distance (entries n w)) i j (closure Distance n w i j)
  shortest hi hj =
      let links = words_links Distance n w words in
      record {
        attained = λ h.
            let (l, way, once, f) = (closure_best Distance n w words hi hj).attained in
            let linked = word_linked links l (λ g. h (f ∙ g)) in
            (l, way, linked, f ∙ linked_word links l linked);
        least = no_longer;
        none_only = λ none l way linked. omega (arith, none, no_longer l way linked);
      }

pub lengths : Lengths
lengths n w r e i j hi hj =
    let input : Accepted Distance n w r = accepted e in
    shortest n w input.words hi hj

-- The entry that an accepted call leaves.
entry_left : (n : ℕ) (w r : List ℕ) → elimination_tests (Known Distance) n w r ≡ 0 → (i j : ℕ) → i < n → j < n
    → get_or (result_after (Known Distance) n w r) (i * n + j) 0 ≡ closure Distance n w i j
unfolding eliminated
entry_left n w r e i j hi hj =
    ap (λ (l : List ℕ). get_or l (i * n + j) 0) (accepted_result Distance n w r e) ∙ (row_by_row_holds n (closure Distance n w)).word i j hi hj

pub lengths_result : LengthsResult
lengths_result n w r e i j hi hj =
    subst (Shortest n (with_own Distance (entries n w)) i j) (sym (entry_left n w r e i j hi hj)) (lengths n w r e i j hi hj)
