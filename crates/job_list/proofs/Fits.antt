-- What the tests of a list's jobs tell of them, and how many words they have at most.
use Prim.Native.Nat.{ℕ, zero, suc, ◌*◌, ◌≤◌, ◌<◌, zero-le}
use native.Mathlib.Decide.{dec_lt}
use native.Mathlib.Nat.{not-suc-le-zero}
use native.Mathlib.Omega.{arith}
use mathlib.Core.Path.{◌≡◌, refl}
use mathlib.Core.List.{List}
use mathlib.Core.Bool.{false}
use lib.Dec.{ltb}
use lib.ListN.{length, get_or, get_or-eq_default}
use borrow.Author.Tests.{le-ltb, ltb-false}
use Rattle.std.specs.Prelude.{Some}
use Rattle.memory.proofs.Any.{any_none, none_any, both_false}
use Rattle.memory.proofs.Geometry.{square_fits}
use Rattle.refusals.specs.Tests.{outside}
use Rattle.refusals.proofs.First.{inside, within}
use Rattle.semiring.specs.Algebra.{Word, top_of}
use Rattle.semiring.specs.Words.{any_above}
use Rattle.semiring.specs.Named.{named_of}
use Rattle.semiring.proofs.Above.{none_above, words_below}
use Rattle.job_list.specs.Jobs.{Jobs, jobs_of, known, algebra_of, algebra, count, size, offset, part_of, job_weights}
use Rattle.job_list.specs.Fits.{any_unknown, any_outside, above_before, job_above, ListFits, ListAccepted, Small}
use Rattle.job_list.proofs.Places.{offset_none, offset_next}

pub area_fits : {n : ℕ} → n ≤ 32 → n * n ≤ 1024
area_fits h = square_fits h

pub sizes_fit : (order : ℕ) (sizes : List ℕ) → any_outside order sizes ≡ false → (q : ℕ) → q < length sizes
    → (1 ≤ get_or sizes q 0) × (get_or sizes q 0 ≤ order)
sizes_fit order sizes e q h = inside (any_none (outside 1 order) sizes e q h)

-- a list that passed the tests of its order, its count and its sizes
pub tested_fits : (algebras : List ℕ) (order : ℕ) (sizes weights : List ℕ) → outside 1 32 order ≡ false → outside 1 16 (length sizes) ≡ false
    → length algebras ≡ length sizes → any_outside order sizes ≡ false → ListFits (jobs_of algebras order sizes weights)
tested_fits algebras order sizes weights e f one_each g =
    let (least, most) = inside e in
    let (some, few) = inside f in
    record {
      ranged = record { least = least; most = most; some = some; few = few };
      algebras_fit = one_each;
      sizes_fit = sizes_fit order sizes g;
    }

-- every number that passed test 1 names an algebra, its job's
pub tested_numbers : (algebras : List ℕ) → any_unknown algebras ≡ false → (q : ℕ) → q < length algebras → get_or algebras q 0 ≤ 2
tested_numbers algebras e q h = ltb-false 2 (get_or algebras q 0) (any_none (ltb 2) algebras e q h)

number_named : (n : ℕ) → n ≤ 2 → named_of n ≡ Some (known (named_of n))
number_named zero h = refl
number_named (suc zero) h = refl
number_named (suc (suc zero)) h = refl
number_named (suc (suc (suc n))) h = absurd (omega arith)

pub algebra_named_lem : {J : Jobs} → ListAccepted J → (q : ℕ) → q < count J → named_of (get_or J.algebras q 0) ≡ Some (algebra J q)
unfolding algebra_of
algebra_named_lem {J} list q h = number_named (get_or J.algebras q 0) (list.numbers q (omega (arith, list.fits.algebras_fit)))

-- no word of the first q jobs is above, so none of each is; past the jobs there are no words
pub above_one : (algebras sizes weights : List ℕ) (m : ℕ) → above_before algebras sizes weights m ≡ false → (q : ℕ) → q < m
    → any_above (top_of (algebra_of algebras q)) (part_of sizes weights q) ≡ false
unfolding above_before
above_one algebras sizes weights zero e q h = absurd (not-suc-le-zero h)
above_one algebras sizes weights (suc m) e q h =
    let (before, last) = both_false (above_before algebras sizes weights m) (any_above (top_of (algebra_of algebras m)) (part_of sizes weights m)) e in
    go last (above_one algebras sizes weights m before q) (dec_lt q m)
  where
    go : any_above (top_of (algebra_of algebras m)) (part_of sizes weights m) ≡ false
        → (q < m → any_above (top_of (algebra_of algebras q)) (part_of sizes weights q) ≡ false)
        → Dec (q < m) → any_above (top_of (algebra_of algebras q)) (part_of sizes weights q) ≡ false
    go last earlier (yes l) = earlier l
    go last earlier (no l) = let same : q ≡ m = omega arith in rw same last

pub tested_words : (algebras : List ℕ) (order : ℕ) (sizes weights : List ℕ) → job_above algebras sizes weights ≡ false
    → (q p : ℕ) → Word (algebra_of algebras q) (get_or (job_weights (jobs_of algebras order sizes weights) q) p 0)
tested_words algebras order sizes weights e q p = go (dec_lt q (length sizes))
  where
    go : Dec (q < length sizes) → Word (algebra_of algebras q) (get_or (part_of sizes weights q) p 0)
    go (yes h) = words_below (top_of (algebra_of algebras q)) (part_of sizes weights q) (above_one algebras sizes weights (length sizes) e q h) p
    go (no h) =
        let none : get_or sizes q 0 ≡ 0 = get_or-eq_default sizes 0 {n = q} (omega arith) in
        rw none zero-le

-- The other way: a list that fits passes the tests.
module _ {J : Jobs} (fits : ListFits J) where
  pub order_passes : outside 1 32 J.order ≡ false
  order_passes = within 1 32 J.order fits.ranged.least fits.ranged.most

  pub count_passes : outside 1 16 (count J) ≡ false
  count_passes = within 1 16 (count J) fits.ranged.some fits.ranged.few

  pub sizes_pass : any_outside J.order J.sizes ≡ false
  sizes_pass =
      none_any (outside 1 J.order) J.sizes
      (λ q h. let (least, most) = fits.sizes_fit q h in within 1 J.order (size J q) least most)

-- each job has words of its algebra
above_none : (J : Jobs) → ((q p : ℕ) → Word (algebra J q) (get_or (job_weights J q) p 0)) → (m : ℕ)
    → above_before J.algebras J.sizes J.weights m ≡ false
unfolding above_before
above_none J words zero = refl
above_none J words (suc m) =
    rw (above_none J words m) (none_above (top_of (algebra J m)) (job_weights J m) (λ p h. words m p))

pub words_pass : {J : Jobs} → ListAccepted J → job_above J.algebras J.sizes J.weights ≡ false
words_pass {J} list = above_none J list.words (count J)

pub numbers_pass : {J : Jobs} → ListAccepted J → any_unknown J.algebras ≡ false
numbers_pass {J} list = none_any (ltb 2) J.algebras (λ q h. le-ltb 2 (get_or J.algebras q 0) (list.numbers q h))

-- few jobs that passed the test of an order in range
pub tested_small : {order : ℕ} (sizes : List ℕ) → length sizes ≤ 16 → order ≤ 32 → any_outside order sizes ≡ false → Small sizes
tested_small {order} sizes few most e = record { few = few; small = λ q h. let (least, fits) = sizes_fit order sizes e q h in omega arith }

pub fits_small : {J : Jobs} → ListFits J → Small J.sizes
fits_small fits = record { few = fits.ranged.few; small = λ q h. let (least, most) = fits.sizes_fit q h in omega (arith, fits.ranged.most) }

-- jobs of at most 32 points
pub offset_most : {sizes : List ℕ} → Small sizes → (q : ℕ) → q ≤ length sizes → offset sizes q ≤ 1024 * q
offset_most {sizes} s zero h = rw (offset_none sizes) (omega arith)
offset_most {sizes} s (suc q) h =
    omega (arith, offset_next sizes q h, offset_most s q (omega arith), area_fits (s.small q h))

pub words_most : {sizes : List ℕ} → Small sizes → offset sizes (length sizes) ≤ 16384
words_most {sizes} s = omega (arith, offset_most s (length sizes) (omega arith), s.few)
