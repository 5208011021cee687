-- Test 5 job by job, as a loop makes it: after q jobs the answer tells of their words, and job q's part is next. And the algebra of a job.
use Prim.Native.Nat.{ℕ, zero, suc, ◌+◌, ◌-◌, ◌*◌, ◌≤◌, ◌<◌}
use native.Mathlib.Numerals.{add-one}
use native.Mathlib.Omega.{arith}
use mathlib.Core.Path.{◌≡◌, refl, sym, ap, ◌∙◌}
use mathlib.Core.List.{List}
use mathlib.Core.Bool.{Bool, true, false}
use lib.ListN.{length, get_or, take, drop}
use mir.Syntax.{w64}
use mir.Val.{Fits}
use Rattle.std.specs.Prelude.{Option, None, Some, Result}
use Rattle.std.specs.Result.{result_unwrap_or}
use Rattle.refusals.specs.declared.Reason.{Reason}
use Rattle.semiring.specs.Algebra.{top_of}
use Rattle.semiring.specs.Words.{any_above}
use Rattle.semiring.specs.Named.{named_of, told_by}
use Rattle.semiring.specs.declared.Algebra.{Algebra}
use Rattle.semiring.specs.declared.Algebra.TheVariants.{Steepest}
use Rattle.job_list.specs.Jobs.{known, algebra_of, offset}
use Rattle.job_list.specs.Fits.{above_before, job_above}
use Rattle.job_list.specs.inner.Parts.{Parts}
use Rattle.job_list.proofs.Places.{offset_none, offset_one, part_within}
use Rattle.job_list.proofs.Fits.{words_most}

-- the number of job q names its algebra, or none
told_known : (d : Option Algebra) → result_unwrap_or (told_by d) Steepest ≡ known d
told_known (Some a) = refl
told_known None = refl

pub named_so : (algebras : List ℕ) (q : ℕ) {told : Result Algebra Reason} {a : Algebra} → told ≡ told_by (named_of (get_or algebras q 0)) → a ≡ result_unwrap_or told Steepest
    → a ≡ algebra_of algebras q
unfolding algebra_of
named_so algebras q e f = f ∙ ap (λ (d : Result Algebra Reason). result_unwrap_or d Steepest) e ∙ told_known (named_of (get_or algebras q 0))

-- no word of the first q jobs is above, and the next job's words begin at `start`
pub record Seen (algebras sizes weights : List ℕ) (start q : ℕ) : Type 0 where
  pub within : q ≤ length sizes
  pub next : start ≡ offset sizes q
  pub none : above_before algebras sizes weights q ≡ false

pub begins : (algebras sizes weights : List ℕ) → Seen algebras sizes weights 0 0
unfolding above_before
begins algebras sizes weights = record { within = omega arith; next = sym (offset_none sizes); none = refl }

-- a word that was found stays found
above_stays : (algebras sizes weights : List ℕ) (q m : ℕ) → above_before algebras sizes weights q ≡ true
    → above_before algebras sizes weights (q + m) ≡ true
unfolding above_before
above_stays algebras sizes weights q zero e = let same : q + 0 ≡ q = omega arith in rw same e
above_stays algebras sizes weights q (suc m) e =
    let next : q + suc m ≡ suc (q + m) = omega arith in
    rw (next, above_stays algebras sizes weights q m e) refl

module _ {algebras sizes weights : List ℕ} {start q : ℕ} (asked : Parts algebras sizes weights)
    (s : Seen algebras sizes weights start q) (more : q < length sizes) where
  module _ {n : ℕ} (sized : n ≡ get_or sizes q 0) where
    pub part_there : start + n * n ≤ length weights
    part_there = rw sized (omega (arith, s.next, asked.weights_fit, part_within sizes q more))

    pub end_room : Fits w64 (start + n * n)
    end_room = omega (arith, part_there, asked.weights_fit, words_most asked.small)

    pub start_room : Fits w64 (start * 2)
    start_room = omega (arith, part_there, asked.weights_fit, words_most asked.small)

    -- what was found of job q's words, in the words of the definition
    above_next : {a : Algebra} {above : Bool} → a ≡ algebra_of algebras q
        → above ≡ any_above (top_of a) (take (start + n * n - start) (drop start weights))
        → above_before algebras sizes weights (suc q) ≡ above
    unfolding above_before
    above_next {a} {above} is told =
        let m : ℕ = get_or sizes q 0 in
        let square : n * n ≡ m * m = ap (λ (x : ℕ). x * x) sized in
        let width : start + n * n - start ≡ m * m = omega arith in
        rw s.none
        (sym
        (told
        ∙ ap (λ (w : ℕ). any_above (top_of a) (take w (drop start weights))) width
        ∙ ap (λ (b : Algebra). any_above (top_of b) (take (m * m) (drop start weights))) is
        ∙ ap (λ (x : ℕ). any_above (top_of (algebra_of algebras q)) (take (m * m) (drop x weights))) s.next))

    module _ {a : Algebra} {above : Bool} (is : a ≡ algebra_of algebras q)
        (told : above ≡ any_above (top_of a) (take (start + n * n - start) (drop start weights))) where
      pub goes_on : above ≡ false → Seen algebras sizes weights (start + n * n) (q + 1)
      goes_on e =
          let square : n * n ≡ get_or sizes q 0 * get_or sizes q 0 = ap (λ (x : ℕ). x * x) sized in
          record {
            within = omega arith;
            next = omega (arith, s.next, square, offset_one sizes q more);
            none = rw (add-one q) (above_next is told ∙ e);
          }

      pub found : above ≡ true → true ≡ job_above algebras sizes weights
      found e =
          let later : suc q + (length sizes - suc q) ≡ length sizes = omega arith in
          rw (← later) (sym (above_stays algebras sizes weights (suc q) (length sizes - suc q) (above_next is told ∙ e)))

pub ends : {algebras sizes weights : List ℕ} {start q : ℕ} → Seen algebras sizes weights start q → length sizes ≤ q
    → false ≡ job_above algebras sizes weights
ends {algebras} {sizes} {weights} s last =
    sym (ap (above_before algebras sizes weights) (omega (arith, s.within)) ∙ s.none)
