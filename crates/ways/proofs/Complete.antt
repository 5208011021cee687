-- Where no point is left that could get a level, every point has one.
use Prim.Native.Nat.{ℕ, zero, suc, ◌≤◌, ◌<◌, zero-le}
use native.Mathlib.Omega.{arith}
use native.Mathlib.Nat.{le_refl}
use native.Mathlib.Decide.{dec_lt, ℕ_discrete}
use mathlib.Core.Path.{◌≡◌, ◌∙◌}
use mathlib.Core.Logic.{◌⊎◌, inl, inr}
use mathlib.Core.List.{List}
use Rattle.semiring.specs.Algebra.{Word, product_of}
use Rattle.semiring.specs.declared.Algebra.{Algebra}
use Rattle.semiring.proofs.Laws.{laws, picks}
use Rattle.semiring.proofs.Order.{AsGood, good_refl, good_trans, good_antisym, product_good}
use Rattle.closure.specs.Table.{Table}
use Rattle.closure.specs.Elimination.{passes}
use Rattle.closure.specs.Ways.{Way, stay, step, way_word}
use Rattle.closure.proofs.Links.{Links}
use Rattle.closure.proofs.Passes.{passes_word, passes_better, triangle}
use Rattle.closure.proofs.Ways.{step_word, way_start, unbettered, attained}
use Rattle.closure.proofs.Simple.{rest_good}
use Rattle.ways.specs.inner.Levels.{Saturated}

-- Of two words one is at least as good as the other.
good_total : {a : Algebra} {x y : ℕ} → Word a x → Word a y → AsGood a x y ⊎ AsGood a y x
good_total {a} {x} {y} v w =
    elim (picks a x y) [
      | inl e ↦ inl (record { left = v; right = w; eq = e })
      | inr e ↦ inr (record { left = w; right = v; eq = (laws a).sum_comm w v ∙ e })
    ]

-- Among the points below m without a level one has a word that none of them betters, if there are any.
record Foremost (a : Algebra) (value level : ℕ → ℕ) (m : ℕ) : Type 0 where
  x : ℕ
  inside : x < m
  bare : level x ≡ 0
  good : (y : ℕ) → y < m → level y ≡ 0 → AsGood a (value x) (value y)

module _ (a : Algebra) (value level : ℕ → ℕ) (word : (v : ℕ) → Word a (value v)) where
  one_more : {m : ℕ} (x : ℕ) → x < suc m → level x ≡ 0 → (level m ≡ 0 → AsGood a (value x) (value m))
      → ((y : ℕ) → y < m → level y ≡ 0 → AsGood a (value x) (value y)) → Foremost a value level (suc m)
  one_more {m} x h z last below = record { x = x; inside = h; bare = z; good = λ y b e. at y b e (ℕ_discrete y m) }
    where
      at : (y : ℕ) → y < suc m → level y ≡ 0 → Dec (y ≡ m) → AsGood a (value x) (value y)
      at y b e (yes q) = rw q (last (rw q at e))
      at y b e (no q) = below y (omega arith) e

  foremost_of : (m : ℕ) → ((y : ℕ) → y < m → level y ≡ 0 → ⊥) ⊎ Foremost a value level m
  foremost_of zero = inl (λ y h. absurd (omega arith))
  foremost_of (suc m) =
      elim (ℕ_discrete (level m) 0) [
        | no r ↦
            elim (foremost_of m) [
              | inl none ↦ inl (λ y h e. elim (ℕ_discrete y m) [ yes q ↦ r (rw q at e) | no q ↦ none y (omega arith) e ])
              | inr b ↦ inr (one_more b.x (omega (arith, b.inside)) b.bare (λ e. absurd (r e)) b.good)
            ]
        | yes z ↦
            elim (foremost_of m) [
              | inl none ↦ inr (one_more m (omega arith) z (λ e. good_refl (word m)) (λ y h e. absurd (none y h e)))
              | inr b ↦
                  elim (good_total {a = a} (word b.x) (word m)) [
                    | inl p ↦ inr (one_more b.x (omega (arith, b.inside)) b.bare (λ e. p) b.good)
                    | inr p ↦ inr (one_more m (omega arith) z (λ e. good_refl (word m)) (λ y h e. good_trans p (b.good y h e)))
                  ]
            ]
      ]

module _ {a : Algebra} {t : Table} (links : Links a t) {n to : ℕ} (inside : to < n) (level : ℕ → ℕ) (target : 1 ≤ level to)
    (saturated : Saturated a n t (λ v. passes a t n v to) level) where
  -- A point without a level and a link from it to a levelled one, over which it gets a word as good as w.
  record Border (w : ℕ) : Type 0 where
    x : ℕ
    y : ℕ
    x_inside : x < n
    y_inside : y < n
    x_none : level x ≡ 0
    y_some : 1 ≤ level y
    good : AsGood a (product_of a (t x y) (passes a t n y to)) w

  -- A way from a point without a level to the target crosses the border: at the last such point on it.
  crosses : {v : ℕ} {l : List ℕ} → Way n v to l → (1 ≤ level v) ⊎ Border (way_word a t l)
  crosses (stay h) = inl target
  crosses (step {i} {k} {l} h w) =
      elim (crosses w) [
        | inl r ↦
            elim (dec_lt 0 (level i)) [
              | yes s ↦ inl s
              | no s ↦ inr (record {
                x = i;
                y = k;
                x_inside = h;
                y_inside = way_start w;
                x_none = omega arith;
                y_some = r;
                good = rw (step_word a t i w) (product_good (good_refl (links.word i k)) (unbettered links w));
              })
            ]
        | inr b ↦ inr (record {
          x = b.x;
          y = b.y;
          x_inside = b.x_inside;
          y_inside = b.y_inside;
          x_none = b.x_none;
          y_some = b.y_some;
          good = good_trans b.good (rest_good links i w);
        })
      ]

  -- So there is none: the border of the best one would have been joined.
  none_left : Foremost a (λ v. passes a t n v to) level n → ⊥
  unfolding passes
  none_left b =
      let (l, w, e) = attained links n (le_refl n) b.inside inside in
      elim (crosses w) [
        | inl r ↦ absurd (omega (arith, b.bare))
        | inr d ↦
            let offer : AsGood a (passes a t n d.x to) (product_of a (t d.x d.y) (passes a t n d.y to)) =
            good_trans (triangle links d.x to d.y_inside)
            (product_good (passes_better links {m' = n} d.x d.y zero-le) (good_refl (passes_word links n d.y to))) in
            let end : AsGood a (product_of a (t d.x d.y) (passes a t n d.y to)) (passes a t n b.x to) = rw e d.good in
            let r : 1 ≤ level d.x =
            saturated d.y d.y_inside d.y_some d.x d.x_inside
            (good_antisym offer (good_trans end (b.good d.x d.x_inside d.x_none))) in
            absurd (omega (arith, d.x_none))
      ]

  pub complete : (v : ℕ) → v < n → 1 ≤ level v
  complete v h =
      elim (foremost_of a (λ v. passes a t n v to) level (λ v. passes_word links n v to) n) [
        | inl none ↦ elim (dec_lt 0 (level v)) [ yes r ↦ r | no r ↦ absurd (none v h (omega arith)) ]
        | inr b ↦ absurd (none_left b)
      ]
