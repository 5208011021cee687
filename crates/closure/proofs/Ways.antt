-- Ways and the table after the passes: no way betters an entry, and some way attains it.
use Prim.Native.Nat.{ℕ, zero, suc, ◌≤◌, ◌<◌, zero-le}
use native.Mathlib.Nat.{le_of_lt}
use mathlib.Core.Path.{◌≡◌, refl, ◌∙◌}
use mathlib.Core.Logic.{inl, inr}
use mathlib.Core.List.{List, [], ◌∷◌}
use Rattle.semiring.specs.Algebra.{Word, own_of, product_of}
use Rattle.semiring.specs.declared.Algebra.{Algebra}
use Rattle.semiring.proofs.Laws.{laws, picks}
use Rattle.semiring.proofs.Order.{AsGood, good_refl, good_trans, product_good}
use Rattle.closure.specs.Table.{Table}
use Rattle.closure.specs.Elimination.{passes}
use Rattle.closure.specs.Ways.{Way, stay, step, way_word}
use Rattle.closure.proofs.Links.{Links}
use Rattle.closure.proofs.Passes.{passes_own, passes_better, triangle}

-- A way begins with a point.
pub way_start : {n i j : ℕ} {l : List ℕ} → Way n i j l → i < n
way_start (stay h) = h
way_start (step h w) = h

-- The word of a point alone, and of a way with one more point in front.
pub stay_word : (a : Algebra) (t : Table) (i : ℕ) → way_word a t (i ∷ []) ≡ own_of a
unfolding way_word
stay_word a t i = refl

pub step_word : (a : Algebra) (t : Table) (i : ℕ) {n k j : ℕ} {l : List ℕ} → Way n k j l
    → way_word a t (i ∷ l) ≡ product_of a (t i k) (way_word a t l)
unfolding way_word
step_word a t i (stay h) = refl
step_word a t i (step h w) = refl

module _ {a : Algebra} {t : Table} (links : Links a t) where
  pub way_word_lem : (l : List ℕ) → Word a (way_word a t l)
  unfolding way_word
  way_word_lem [] = (laws a).own_word
  way_word_lem (i ∷ []) = (laws a).own_word
  way_word_lem (i ∷ k ∷ l) = (laws a).product_word (links.word i k) (way_word_lem (k ∷ l))

  -- No way betters an entry: its first link and what follows are no better than the triangle's two entries.
  pub unbettered : {n i j : ℕ} {l : List ℕ} → Way n i j l → AsGood a (passes a t n i j) (way_word a t l)
  unfolding passes
  unbettered {n} (stay {i} h) = rw (passes_own links n i, stay_word a t i) (good_refl (laws a).own_word)
  unbettered {n} (step {i} {k} {j} h w) =
      let links_then = product_good (passes_better links {m' = n} i k zero-le) (unbettered w) in
      rw (step_word a t i w) (good_trans (triangle links i j (way_start w)) links_then)

  -- Two ways that meet, joined: the word is the product of theirs.
  pub join : {n i k j : ℕ} {l l' : List ℕ} → Way n i k l → Way n k j l'
      → (r : List ℕ) × Way n i j r × (way_word a t r ≡ product_of a (way_word a t l) (way_word a t l'))
  join {l'} (stay {i} h) v = (l', v, rw (stay_word a t i, (laws a).own_product (way_word_lem l')))
  join {l'} (step {i} {k} {l} h w) v =
      let (r, u, e) = join w v in (
        i ∷ r,
        step h u,
        rw (step_word a t i u, step_word a t i w, e, (laws a).product_assoc (links.word i k) (way_word_lem l) (way_word_lem l')),
      )

  -- Some way attains each entry: each sum picks the word of a way, or of two ways to be joined.
  pub attained : {n i j : ℕ} (m : ℕ) → m ≤ n → i < n → j < n
      → (l : List ℕ) × Way n i j l × (passes a t m i j ≡ way_word a t l)
  unfolding passes
  attained {i} {j} zero h hi hj = (
    i ∷ j ∷ [],
    step hi (stay hj),
    rw (step_word a t i (stay hj), stay_word a t j, (laws a).product_own (links.word i j)),
  )
  attained {i} {j} (suc m) h hi hj =
      elim (picks a (passes a t m i j) (product_of a (passes a t m i m) (passes a t m m j))) [
        | inl e ↦ let (l, w, f) = attained m (le_of_lt h) hi hj in (l, w, e ∙ f)
        | inr e ↦
            let (l, w, f) = attained m (le_of_lt h) hi h in
            let (l', w', f') = attained m (le_of_lt h) h hj in
            let (r, u, g) = join w w' in
            (r, u, e ∙ rw (f, f', g))
      ]
