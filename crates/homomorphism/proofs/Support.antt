-- The support is a homomorphism: none is neutral to the sum and makes every product none, and of two words that aren't none neither sum
-- nor product is none.
use Prim.Native.Nat.{ℕ, ◌+◌, ◌≤◌, ◌<◌, min, max}
use native.Mathlib.Omega.{arith}
use native.Mathlib.Decide.{dec_lt, ℕ_discrete}
use mathlib.Core.Path.{◌≡◌, refl, sym, ap, ◌∙◌}
use mathlib.Core.Logic.{◌≢◌, inl, inr}
use Rattle.semiring.specs.Algebra.{Word, none_word_of, own_of, sum_of, product_of}
use Rattle.semiring.specs.declared.Algebra.{Algebra}
use Rattle.semiring.specs.declared.Algebra.TheVariants.{Reach, Distance, Steepest}
use Rattle.semiring.proofs.Laws.{laws, picks}
use Rattle.semiring.proofs.Held.{sum_held}
use borrow.Author.Tests.{eq-eqb, ne_eqb, lt-ltb, le-ltb}
use Rattle.homomorphism.specs.Support.{support}
use Rattle.homomorphism.specs.claims.Maps.{PositiveAlgebras, SupportKept, NeedsK4}

own_not_none : (a : Algebra) → own_of a ≢ none_word_of a
own_not_none Reach e = omega arith
own_not_none Distance e = omega arith
own_not_none Steepest e = omega arith

-- A sum is one of its two words, and of x and none it is x.
pub positive : PositiveAlgebras
positive a = record {
  own_some = own_not_none a;
  sum_some = λ {x} {y} v w d z.
      elim (picks a x y) [
        | inl u ↦ d (sym u ∙ z)
        | inr u ↦ d (sym ((laws a).sum_none v) ∙ ap (λ (t : ℕ). sum_of a x t) (sym z ∙ u) ∙ z)
      ];
  product_some = (laws a).product_not_none;
}

pub needs_k4 : NeedsK4
needs_k4 = record {
  none = refl;
  one = refl;
  not_kept = λ kept. let e : ◌≡◌ {A = ℕ} 0 1 = kept 40000 40000 (omega arith) (omega arith) in omega arith;
  before = λ x y.
      elim (dec_lt (x + y) 65535) [
        | yes h ↦
            let u : min (x + y) 65535 ≡ min (x + y) 65534 = omega arith in
            rw (lt-ltb (x + y) 65535 h) (u ∙ sym (sum_held {x = x} {y = y} (λ e. omega arith) (λ e. omega arith)))
        | no h ↦ let k : 65535 ≤ x + y = omega arith in rw (le-ltb (x + y) 65535 k) (omega arith)
      ];
}

module _ (a : Algebra) where
  pub support_none : {x : ℕ} → x ≡ none_word_of a → support a x ≡ 0
  support_none {x} e = rw (eq-eqb x (none_word_of a) e)

  pub support_some : {x : ℕ} → x ≢ none_word_of a → support a x ≡ 1
  support_some {x} d = rw (ne_eqb x (none_word_of a) d)

  support-sum : {x y : ℕ} → Word a x → Word a y → Dec (x ≡ none_word_of a) → Dec (y ≡ none_word_of a)
      → support a (sum_of a x y) ≡ max (support a x) (support a y)
  support-sum {x} {y} v w (yes e) k =
      let u : sum_of a x y ≡ y = (laws a).sum_comm v w ∙ rw e ((laws a).sum_none w) in
      rw (u, support_none e) (omega arith)
  support-sum {x} {y} v w (no d) (yes e) =
      let u : sum_of a x y ≡ x = rw e ((laws a).sum_none v) in
      rw (u, support_none e, support_some d)
  support-sum {x} {y} v w (no d) (no e) = rw (support_some d, support_some e) (support_some ((positive a).sum_some v w d))

  support_product : {x y : ℕ} → Word a x → Word a y → Dec (x ≡ none_word_of a) → Dec (y ≡ none_word_of a)
      → support a (product_of a x y) ≡ min (support a x) (support a y)
  support_product {x} {y} v w (yes e) k =
      let u : product_of a x y ≡ none_word_of a = rw e ((laws a).none_product w) in
      support_none u ∙ rw (support_none e) (omega arith)
  support_product {x} {y} v w (no d) (yes e) =
      let u : product_of a x y ≡ none_word_of a = rw e ((laws a).product_none v) in
      support_none u ∙ rw (support_none e, support_some d)
  support_product {x} {y} v w (no d) (no e) = rw (support_some d, support_some e) (support_some ((positive a).product_some v w d e))

pub support_kept : SupportKept
support_kept a = record {
  none = support_none a refl;
  own = support_some a (positive a).own_some;
  sum = λ {x} {y} v w. support-sum a v w (ℕ_discrete x (none_word_of a)) (ℕ_discrete y (none_word_of a));
  product = λ {x} {y} v w. support_product a v w (ℕ_discrete x (none_word_of a)) (ℕ_discrete y (none_word_of a));
}
