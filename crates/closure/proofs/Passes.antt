-- The table after m passes: its words, its diagonal, that passes only better it, and the triangle through a point passed.
use Prim.Native.Nat.{ℕ, zero, suc, ◌≤◌, ◌<◌}
use native.Mathlib.Nat.{eq-or-lt_of_le, le_of_suc-le-suc, not-suc-le-zero}
use mathlib.Core.Path.{◌≡◌}
use mathlib.Core.Logic.{inl, inr}
use lib.Arith.{le-zero}
use Rattle.semiring.specs.Algebra.{Word, own_of, product_of}
use Rattle.semiring.specs.declared.Algebra.{Algebra}
use Rattle.semiring.proofs.Laws.{laws}
use Rattle.semiring.proofs.Order.{
  AsGood,
  good_refl,
  good_trans,
  sum_good_left,
  sum_good_right,
  own_good,
  product_good,
  front_good,
  behind_good,
  spread,
}
use Rattle.closure.specs.Table.{Table}
use Rattle.closure.specs.Elimination.{passes}
use Rattle.closure.proofs.Links.{Links}

module _ {a : Algebra} {t : Table} (links : Links a t) where
  pub passes_word : (m i j : ℕ) → Word a (passes a t m i j)
  unfolding passes
  passes_word zero i j = links.word i j
  passes_word (suc m) i j =
      (laws a).sum_word (passes_word m i j) ((laws a).product_word (passes_word m i m) (passes_word m m j))

  -- the product that pass m offers to entry (i, j)
  offer_word : (m i j : ℕ) → Word a (product_of a (passes a t m i m) (passes a t m m j))
  offer_word m i j = (laws a).product_word (passes_word m i m) (passes_word m m j)

  -- pass m leaves an entry at least as good as it was, and as what it offers
  pub pass_keeps : (m i j : ℕ) → AsGood a (passes a t (suc m) i j) (passes a t m i j)
  unfolding passes
  pass_keeps m i j = sum_good_left (passes_word m i j) (offer_word m i j)

  pub pass_offers : (m i j : ℕ) → AsGood a (passes a t (suc m) i j) (product_of a (passes a t m i m) (passes a t m m j))
  unfolding passes
  pass_offers m i j = sum_good_right (passes_word m i j) (offer_word m i j)

  pub passes_better : {m m' : ℕ} (i j : ℕ) → m ≤ m' → AsGood a (passes a t m' i j) (passes a t m i j)
  passes_better {m} {m' = zero} i j h = rw (le-zero h) (good_refl (passes_word zero i j))
  passes_better {m} {m' = suc m'} i j h =
      elim (eq-or-lt_of_le h) [
        | inl e ↦ rw e (good_refl (passes_word (suc m') i j))
        | inr h ↦ good_trans (pass_keeps m' i j) (passes_better i j (le_of_suc-le-suc h))
      ]

  pub passes_own : (m i : ℕ) → passes a t m i i ≡ own_of a
  unfolding passes
  passes_own zero i = links.own i
  passes_own (suc m) i = rw (passes_own m i) (own_good {a = a} (offer_word m i i)).eq

  -- Column m and row m stand still in pass m: it offers them what they are.
  pub column_still : (m i : ℕ) → passes a t (suc m) i m ≡ passes a t m i m
  unfolding passes
  column_still m i =
      rw (passes_own m m, (laws a).product_own (passes_word m i m), (laws a).sum_idem (passes_word m i m))

  pub row_still : (m j : ℕ) → passes a t (suc m) m j ≡ passes a t m m j
  unfolding passes
  row_still m j =
      rw (passes_own m m, (laws a).own_product (passes_word m m j), (laws a).sum_idem (passes_word m m j))

  -- Pass m keeps the triangle through p: the product of two sums spreads into four products.
  triangle_kept : (m p : ℕ)
      → ((i j : ℕ) → AsGood a (passes a t m i j) (product_of a (passes a t m i p) (passes a t m p j)))
      → (i j : ℕ)
      → AsGood a (passes a t (suc m) i j) (product_of a (passes a t (suc m) i p) (passes a t (suc m) p j))
  unfolding passes
  triangle_kept m p known i j =
      let word = passes_word m in
      let offered = pass_offers m i j in
      let left = product_good (known i m) (good_refl (word m j)) in
      let right = product_good (good_refl (word i m)) (known m j) in
      let round = product_good (front_good {a = a} (word i m) (word m p)) (behind_good (word p m) (word m j)) in
      spread (word i p) (offer_word m i p) (word p j) (offer_word m p j)
      (good_trans (pass_keeps m i j) (known i j))
      (good_trans offered (rw (← (laws a).product_assoc (word i p) (word p m) (word m j)) left))
      (good_trans offered (rw ((laws a).product_assoc (word i m) (word m p) (word p j)) right))
      (good_trans offered round)

  -- An entry is at least as good as going through a point that was passed.
  pub triangle : {m p : ℕ} (i j : ℕ) → p < m
      → AsGood a (passes a t m i j) (product_of a (passes a t m i p) (passes a t m p j))
  triangle {m = zero} i j h = absurd (not-suc-le-zero h)
  triangle {m = suc m} {p} i j h =
      elim (eq-or-lt_of_le (le_of_suc-le-suc h)) [
        | inl e ↦ rw (e, column_still m i, row_still m j) (pass_offers m i j)
        | inr h ↦ triangle_kept m p (λ i j. triangle i j h) i j
      ]
