-- Test 5 decides whether a job in reach has a word above 1.
use Prim.Native.Nat.{ℕ, zero, suc, ◌+◌, ◌<◌}
use native.Mathlib.Decide.{dec_lt}
use native.Mathlib.Nat.{not-suc-le-zero}
use native.Mathlib.Omega.{arith}
use mathlib.Core.Path.{◌≡◌, refl}
use mathlib.Core.Logic.{◌⊎◌, inl, inr}
use mathlib.Core.List.{List}
use lib.ListN.{length, get_or}
use Rattle.refusals.specs.Conditions.{Words16}
use Rattle.refusals.proofs.Conditions.{Decides, either, decides_never}
use Rattle.semiring.specs.Algebra.{top_of}
use Rattle.semiring.specs.Named.{named_of}
use Rattle.semiring.specs.Words.{any_above, ReachAbove}
use Rattle.semiring.specs.declared.Algebra.TheVariants.{Reach, Distance, Steepest}
use Rattle.semiring.proofs.Numbers.{decides_reach}
use Rattle.job_list.specs.Jobs.{known, algebra_of, offset, part_of}
use Rattle.job_list.specs.Fits.{above_before, job_above}
use Rattle.job_list.proofs.Places.{part_word, part_there}

-- a part of 16-bit words
part_words : (sizes weights : List ℕ) → Words16 weights → (q : ℕ) → Words16 (part_of sizes weights q)
part_words sizes weights h q p k =
    let (short, there) = part_there sizes weights q p k in
    rw (part_word sizes weights q p short) (h (offset sizes q + p) there)

-- by the number of the job's algebra
decides_number : (number : ℕ) (w : List ℕ) → Words16 w → Decides (any_above (top_of (known (named_of number))) w) (ReachAbove number w)
decides_number zero w h = decides_reach 0 Reach refl w h
decides_number (suc zero) w h = decides_reach 1 Distance refl w h
decides_number (suc (suc zero)) w h = decides_reach 2 Steepest refl w h
decides_number (suc (suc (suc n))) w h =
    let d = decides_reach 2 Steepest refl w h in
    record { yes = λ e. absurd (omega (arith, (d.yes e).0)); no = λ e r. absurd (omega (arith, r.0)) }

module _ (algebras sizes weights : List ℕ) (h : Words16 weights) where
  -- some job of the first m
  abbrev Above : ℕ → Type 0
  Above m = (q : ℕ) × (q < m) × ReachAbove (get_or algebras q 0) (part_of sizes weights q)

  decides_part : (q : ℕ) → Decides (any_above (top_of (algebra_of algebras q)) (part_of sizes weights q)) (ReachAbove (get_or algebras q 0) (part_of sizes weights q))
  unfolding algebra_of
  decides_part q = decides_number (get_or algebras q 0) (part_of sizes weights q) (part_words sizes weights h q)

  one_more : (m : ℕ) → Above m ⊎ ReachAbove (get_or algebras m 0) (part_of sizes weights m) → Above (suc m)
  one_more m (inl (q, l, r)) = (q, omega arith, r)
  one_more m (inr r) = (m, omega arith, r)

  one_less : (m : ℕ) → Above (suc m) → Above m ⊎ ReachAbove (get_or algebras m 0) (part_of sizes weights m)
  one_less m (q, l, r) = go (dec_lt q m)
    where
      go : Dec (q < m) → Above m ⊎ ReachAbove (get_or algebras m 0) (part_of sizes weights m)
      go (yes k) = inl (q, k, r)
      go (no k) = let last : q ≡ m = omega arith in inr (rw last at r)

  decides_before : (m : ℕ) → Decides (above_before algebras sizes weights m) (Above m)
  unfolding above_before
  decides_before zero = record { yes = λ e. absurd (decides_never.yes e); no = λ e s. not-suc-le-zero s.1 }
  decides_before (suc m) =
      let d = either (decides_before m) (decides_part m) in
      record { yes = λ e. one_more m (d.yes e); no = λ e s. d.no e (one_less m s) }

  pub decides_above_job : Decides (job_above algebras sizes weights) (Above (length sizes))
  decides_above_job = decides_before (length sizes)
