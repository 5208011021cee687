-- A link whose worst word betters its best one is found exactly where there is one.
use Prim.Native.Nat.{ℕ, zero, suc, ◌<◌}
use native.Mathlib.Nat.{not-suc-le-zero}
use native.Mathlib.Decide.{ℕ_discrete}
use native.Mathlib.Omega.{arith}
use mathlib.Core.Path.{◌≡◌, refl, sym}
use mathlib.Core.Logic.{◌⊎◌, inl, inr, ◌≢◌}
use mathlib.Core.List.{List}
use mathlib.Core.Bool.{Bool, true≢false}
use Rattle.refusals.proofs.Conditions.{Decides, decides_as, both, either, decides_differ}
use Rattle.semiring.specs.declared.Algebra.{Algebra}
use Rattle.semiring.proofs.Betters.{decides_betters}
use Rattle.ranges.specs.Between.{WorstBetters, Inverted}
use Rattle.ranges.specs.Tests.{some_below, inverted_at, inverted}

-- Some number below m.
abbrev pub Below : ℕ → (ℕ → Type 0) → Type 0
Below m P = (p : ℕ) × (p < m) × P p

below_to : {m : ℕ} {P : ℕ → Type 0} → Below m P ⊎ P m → Below (suc m) P
below_to {m} (inl (p, h, q)) = (p, omega arith, q)
below_to {m} (inr q) = (m, omega arith, q)

below-from : {m : ℕ} {P : ℕ → Type 0} → Below (suc m) P → Below m P ⊎ P m
below-from {m} {P} (p, h, q) = go (ℕ_discrete p m)
  where
    go : Dec (p ≡ m) → Below m P ⊎ P m
    go (yes e) = inr (rw e at q)
    go (no d) = inl (p, omega arith, q)

pub decides_below : (m : ℕ) (test : ℕ → Bool) (P : ℕ → Type 0) → ((p : ℕ) → p < m → Decides (test p) (P p))
    → Decides (some_below m test) (Below m P)
unfolding some_below
decides_below zero test P d = record { yes = λ e. absurd (true≢false (sym e)); no = λ e (p, h, q). not-suc-le-zero h }
decides_below (suc m) test P d =
    decides_as {P = Below m P ⊎ P m} below_to below-from (either (decides_below m test P (λ p h. d p (omega arith))) (d m (omega arith)))

-- Tests that answer alike below m.
pub below_alike : (m : ℕ) (test test' : ℕ → Bool) → ((p : ℕ) → p < m → test p ≡ test' p) → some_below m test ≡ some_below m test'
unfolding some_below
below_alike zero test test' alike = refl
below_alike (suc m) test test' alike = rw (below_alike m test test' (λ p h. alike p (omega arith)), alike m (omega arith))

module _ (a : Algebra) (n : ℕ) (best worst : List ℕ) where
  decides_at : (i j : ℕ) → Decides (inverted_at a n best worst i j) ((i ≢ j) × WorstBetters a n best worst i j)
  decides_at i j = both (decides_differ i j) (decides_betters a _ _)

  pub decides_inverted : Decides (inverted a n best worst) (Inverted a n best worst)
  unfolding inverted
  decides_inverted =
      decides_as
      {P = Below n (λ i. Below n (λ j. (i ≢ j) × WorstBetters a n best worst i j))}
      (λ (i, hi, (j, hj, (d, b))). (i, j, hi, hj, d, b))
      (λ (i, j, hi, hj, d, b). (i, hi, (j, hj, (d, b))))
      (decides_below n _ _ (λ i hi. decides_below n _ _ (λ j hj. decides_at i j)))
