-- Which of two words is the better: the test, and what it says of their order.
use Prim.Native.Nat.{ℕ}
use native.Mathlib.Decide.{ℕ_discrete}
use mathlib.Core.Path.{◌≡◌, sym, ap, ◌∙◌}
use mathlib.Core.Logic.{inl, inr}
use mathlib.Core.Bool.{not, ◌&&◌}
use lib.Dec.{eqb}
use Rattle.refusals.proofs.Conditions.{Decides, both, decides_differ, decides_equal}
use Rattle.semiring.specs.Algebra.{Word, Betters, betters, sum_of}
use Rattle.semiring.specs.declared.Algebra.{Algebra}
use Rattle.semiring.proofs.Laws.{laws, picks}
use Rattle.semiring.proofs.Order.{AsGood, good_refl}

pub decides_betters : (a : Algebra) (x y : ℕ) → Decides (betters a x y) (Betters a x y)
decides_betters a x y = both (decides_differ x y) (decides_equal x (sum_of a x y))

-- the two tests that the code makes, with the sum that it made
pub two_tests : (a : Algebra) (x y : ℕ) {made : ℕ} → made ≡ sum_of a x y → (not (eqb x y) && eqb x made) ≡ betters a x y
two_tests a x y e = ap (λ (m : ℕ). not (eqb x y) && eqb x m) e

-- Sum picks one of its two, so a word that is not bettered is at least as good.
pub unbettered_good : {a : Algebra} {x y : ℕ} → Word a x → Word a y → (Betters a y x → ⊥) → AsGood a x y
unbettered_good {a} {x} {y} v w f =
    elim (ℕ_discrete y x) [
      | yes e ↦ rw e (good_refl v)
      | no d ↦
          elim (picks a x y) [
            | inl e ↦ record { left = v; right = w; eq = e }
            | inr e ↦ absurd (f (d, sym ((laws a).sum_comm w v ∙ e)))
          ]
    ]
