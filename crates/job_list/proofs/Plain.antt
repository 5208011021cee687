-- A list of one algebra: some job has a word above exactly where the list has one.
use Prim.Native.Nat.{ℕ, zero, suc, ◌+◌, ◌≤◌, ◌<◌}
use native.Mathlib.Omega.{arith}
use mathlib.Core.Path.{◌≡◌, refl, sym, ap, ◌∙◌}
use mathlib.Core.List.{List}
use mathlib.Core.Bool.{Bool, true, false}
use lib.ListN.{length, get_or}
use Rattle.memory.proofs.Any.{any_none}
use Rattle.refusals.proofs.First.{equal}
use Rattle.semiring.specs.Algebra.{top_of}
use Rattle.semiring.specs.Words.{any_above}
use Rattle.semiring.specs.Named.{named_of}
use Rattle.semiring.specs.declared.Algebra.{Algebra}
use Rattle.semiring.proofs.Above.{none_above, words_below}
use Rattle.job_list.specs.Jobs.{known, algebra_of, offset, part_of}
use Rattle.job_list.specs.Fits.{above_before, job_above}
use Rattle.job_list.specs.inner.Parts.{any_other, Parts}
use Rattle.job_list.proofs.Places.{offset_find, part_word, part_there}
use Rattle.job_list.proofs.Fits.{above_one}

-- false together, so alike
alike : (x y : Bool) → (x ≡ false → y ≡ false) → (y ≡ false → x ≡ false) → x ≡ y
alike true true f g = refl
alike true false f g = g refl
alike false true f g = sym (f refl)
alike false false f g = refl

pub some_there : {algebras sizes weights : List ℕ} → Parts algebras sizes weights → 0 < length algebras
some_there asked = omega (arith, asked.some, asked.algebras_fit)

module _ {algebras sizes weights : List ℕ} (asked : Parts algebras sizes weights) (plain : any_other (get_or algebras 0 0) algebras ≡ false) where
  abbrev first_top : ℕ
  first_top = top_of (algebra_of algebras 0)

  one_algebra : (q : ℕ) → q < length sizes → algebra_of algebras q ≡ algebra_of algebras 0
  unfolding algebra_of
  one_algebra q h =
      let there : q < length algebras = omega (arith, asked.algebras_fit) in
      ap (λ (n : ℕ). known (named_of n)) (equal (get_or algebras q 0) (get_or algebras 0 0) (any_none _ algebras plain q there))

  -- the words of the list are within the bound, so those of a part are
  part_below : any_above first_top weights ≡ false → (q : ℕ) → any_above first_top (part_of sizes weights q) ≡ false
  part_below e q =
      none_above first_top (part_of sizes weights q)
      (λ p h. rw (part_word sizes weights q p (part_there sizes weights q p h).0) (words_below first_top weights e (offset sizes q + p)))

  all-below : any_above first_top weights ≡ false → (m : ℕ) → m ≤ length sizes → above_before algebras sizes weights m ≡ false
  unfolding above_before
  all-below e zero h = refl
  all-below e (suc m) h = rw (all-below e m (omega arith), one_algebra m h, part_below e m)

  -- each of the list's words is one of a job
  below_all : job_above algebras sizes weights ≡ false → any_above first_top weights ≡ false
  below_all e =
      none_above first_top weights
      (λ p h.
      let (q, r, hq, hr, place) = offset_find sizes p (omega (arith, asked.weights_fit)) in
      let none : any_above (top_of (algebra_of algebras q)) (part_of sizes weights q) ≡ false = above_one algebras sizes weights (length sizes) e q hq in
      let word : get_or (part_of sizes weights q) r 0 ≤ top_of (algebra_of algebras q) = words_below (top_of (algebra_of algebras q)) (part_of sizes weights q) none r in
      let there : get_or (part_of sizes weights q) r 0 ≡ get_or weights p 0 = part_word sizes weights q r hr ∙ ap (λ (m : ℕ). get_or weights m 0) (sym place) in
      rw (← there, ← one_algebra q hq) word)

  pub plain_above : {a : Algebra} {above : Bool} → a ≡ algebra_of algebras 0 → above ≡ any_above (top_of a) weights
      → above ≡ job_above algebras sizes weights
  plain_above {a} is told =
      told
      ∙ ap (λ (b : Algebra). any_above (top_of b) weights) is
      ∙ alike (any_above first_top weights) (job_above algebras sizes weights) (λ e. all-below e (length sizes) (omega arith)) below_all
