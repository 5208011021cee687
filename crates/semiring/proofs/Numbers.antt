-- Which numbers name an algebra, and what test 5 decides for each.
use Prim.Native.Nat.{ℕ, zero, suc, ◌<◌}
use native.Mathlib.Omega.{arith}
use mathlib.Core.Path.{◌≡◌, refl}
use mathlib.Core.Logic.{◌⊎◌, inl, inr}
use mathlib.Core.List.{List}
use mathlib.Core.Bool.{Bool}
use lib.Dec.{ltb}
use Rattle.refusals.specs.Conditions.{Some, Words16}
use Rattle.refusals.proofs.Conditions.{Decides, decides_above, decides_any}
use Rattle.semiring.specs.Algebra.{top_of}
use Rattle.semiring.specs.Words.{any_above, ReachAbove}
use Rattle.semiring.specs.Named.{named_of, number_of}
use Rattle.semiring.specs.declared.Algebra.{Algebra}
use Rattle.semiring.specs.declared.Algebra.TheVariants.{Reach, Distance, Steepest}
use Rattle.std.specs.Prelude.{None, Some as some}

above_16 : (w : List ℕ) → Words16 w → Some (λ x. 65535 < x) w → ⊥
above_16 w h (p, k, m) = let l = h p k in omega arith

-- "a reach word above 1": outside reach no 16-bit word is above the largest one
decides_above_top : (a : Algebra) (w : List ℕ) → Words16 w → Decides (any_above (top_of a) w) (ReachAbove (number_of a) w)
decides_above_top Reach w h =
    let d = decides_any (ltb 1) (λ x. 1 < x) (decides_above 1) w in
    record { yes = λ e. (refl, d.yes e); no = λ e r. d.no e r.1 }
decides_above_top Distance w h =
    let d = decides_any (ltb 65535) (λ x. 65535 < x) (decides_above 65535) w in
    record { yes = λ e. absurd (above_16 w h (d.yes e)); no = λ e r. absurd (omega (arith, r.0)) }
decides_above_top Steepest w h =
    let d = decides_any (ltb 65535) (λ x. 65535 < x) (decides_above 65535) w in
    record { yes = λ e. absurd (above_16 w h (d.yes e)); no = λ e r. absurd (omega (arith, r.0)) }

pub decides_reach : (algebra : ℕ) (a : Algebra) → algebra ≡ number_of a → (w : List ℕ) → Words16 w → Decides (any_above (top_of a) w) (ReachAbove algebra w)
decides_reach algebra a e w h = rw e (decides_above_top a w h)

-- A number names an algebra, or it is above 2.
abbrev pub Names : ℕ → Type 0
Names algebra = ((a : Algebra) × (named_of algebra ≡ some a) × (algebra ≡ number_of a)) ⊎ ((named_of algebra ≡ None) × (2 < algebra))

pub named_or_above : (algebra : ℕ) → Names algebra
named_or_above zero = inl (Reach, refl, refl)
named_or_above (suc zero) = inl (Distance, refl, refl)
named_or_above (suc (suc zero)) = inl (Steepest, refl, refl)
named_or_above (suc (suc (suc n))) = inr (refl, omega arith)

-- A condition over the algebra that the number names.
pub of_known : (algebra : ℕ) {a : Algebra} {b : Bool} (P : Algebra → Type 0) → named_of algebra ≡ some a → Decides b (P a)
    → Decides b ((x : Algebra) × (named_of algebra ≡ some x) × P x)
of_known algebra {a} P known d = record {
  yes = λ e. (a, known, d.yes e);
  no = λ e (x, named, p). let k : x ≡ a = cc in d.no e (rw k at p);
}

pub known_below : (algebra : ℕ) (a : Algebra) → algebra ≡ number_of a → 2 < algebra → ⊥
known_below algebra Reach e h = omega arith
known_below algebra Distance e h = omega arith
known_below algebra Steepest e h = omega arith
