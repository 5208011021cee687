-- The support of accepted words is accepted in reach, since it is 0 and 1, and has the same links.
use Prim.Native.Nat.{ℕ, zero, suc, ◌+◌, ◌-◌, ◌*◌, ◌≤◌, ◌<◌}
use native.Mathlib.Nat.{le_of_suc-le-suc, not-suc-le-zero}
use native.Mathlib.Decide.{ℕ_discrete, dec_lt}
use native.Mathlib.Omega.{arith}
use mathlib.Core.Path.{◌≡◌, refl, ap, ◌∙◌}
use mathlib.Core.List.{List, [], ◌∷◌, map}
use lib.ListN.{length, get_or, take, drop, replicate, length-map, length-take, length-replicate, get_or-eq_default}
use lib.Seq.{get_or-take, get_or-drop}
use lib.Arith.{digits_lt}
use Rattle.semiring.specs.Algebra.{none_word_of}
use Rattle.semiring.specs.declared.Algebra.{Algebra}
use Rattle.semiring.specs.declared.Algebra.TheVariants.{Reach}
use borrow.Author.Tests.{lt-ltb, le-ltb}
use Rattle.memory.proofs.ListOf.{length_list_of, get_d_list_of}
use Rattle.refusals.proofs.First.{none_applied, equal}
use Rattle.closure.specs.Table.{entries}
use Rattle.closure.proofs.Accepted.{Accepted, accepted, accepts}
use Rattle.job_list.specs.Jobs.{Jobs, jobs_of, count, size, algebra_of, algebra, offset, part_of, job_weights}
use Rattle.job_list.specs.Fits.{ListAccepted}
use Rattle.job_list.proofs.Places.{offset_below, part_word}
use Rattle.systolic.specs.State.{state_length}
use Rattle.systolic.specs.Start.{start_table}
use Rattle.systolic.proofs.Started.{started_by, starts}
use Rattle.homomorphism.specs.Support.{support}
use Rattle.homomorphism.specs.claims.Agreement.{SameLinksFound}
use Rattle.homomorphism.specs.claims.Arrays.{job_of_word, supports, SameJobsFound}
use Rattle.homomorphism.proofs.Support.{support_none, support_some}
use Rattle.homomorphism.proofs.Agreement.{support_agrees}

module _ (a : Algebra) where
  support_word : (x : ℕ) → Dec (x ≡ none_word_of a) → support a x ≤ 1
  support_word x (yes e) = rw (support_none a e) (omega arith)
  support_word x (no d) = rw (support_some a d) (omega arith)

  supports_words : (w : List ℕ) (p : ℕ) → get_or (map (support a) w) p 0 ≤ 1
  supports_words [] p = omega arith
  supports_words (x ∷ w) zero = support_word x (ℕ_discrete x (none_word_of a))
  supports_words (x ∷ w) (suc p) = supports_words w p

  supports_at : (w : List ℕ) (p : ℕ) → p < length w → get_or (map (support a) w) p 0 ≡ support a (get_or w p 0)
  supports_at [] p h = absurd (not-suc-le-zero h)
  supports_at (x ∷ w) zero h = refl
  supports_at (x ∷ w) (suc p) h = supports_at w p (le_of_suc-le-suc h)

pub same_links_found : SameLinksFound
same_links_found a n w r e =
    let input : Accepted a n w r = accepted e in
    let reach : Accepted Reach n (map (support a) w) r = record {
      least = input.least;
      most = input.most;
      weights = length-map w (support a) ∙ input.weights;
      result = input.result;
      words = supports_words a w;
    } in
    (accepts reach, λ i j hi hj d. support_agrees a (supports_at a w (i * n + j) (rw input.weights (digits_lt hi hj))))

-- the job of a word of its part: the first job's words come first
word_here : (n : ℕ) (sizes : List ℕ) (p : ℕ) → p < n * n → job_of_word (n ∷ sizes) p ≡ 0
unfolding job_of_word
word_here n sizes p h = rw (lt-ltb p (n * n) h)

word_later : (n : ℕ) (sizes : List ℕ) (p r : ℕ) → p ≡ n * n + r → job_of_word (n ∷ sizes) p ≡ suc (job_of_word sizes r)
unfolding job_of_word
word_later n sizes p r e =
    let rest : p - n * n ≡ r = omega arith in
    rw (le-ltb p (n * n) (omega arith), rest)

job_of_word_lem : (sizes : List ℕ) (q r : ℕ) → q < length sizes → r < get_or sizes q 0 * get_or sizes q 0 → job_of_word sizes (offset sizes q + r) ≡ q
unfolding offset
job_of_word_lem [] q r h k = absurd (not-suc-le-zero h)
job_of_word_lem (n ∷ sizes) zero r h k = word_here n sizes (0 + r) (omega arith)
job_of_word_lem (n ∷ sizes) (suc q) r h k =
    word_later n sizes (n * n + offset sizes q + r) (offset sizes q + r) (omega arith)
    ∙ ap suc (job_of_word_lem sizes q r (le_of_suc-le-suc h) k)

-- reach for every job, and past them too
reach_number : (m q : ℕ) → get_or (replicate {A = ℕ} m 0) q 0 ≡ 0
reach_number zero q = refl
reach_number (suc m) zero = refl
reach_number (suc m) (suc q) = reach_number m q

reach_algebra : (m q : ℕ) → algebra_of (replicate m 0) q ≡ Reach
unfolding algebra_of
reach_algebra m q = rw (reach_number m q)

-- a part of small words
part_small : (w : List ℕ) → ((p : ℕ) → get_or w p 0 ≤ 1) → (n m p : ℕ) → get_or (take n (drop m w)) p 0 ≤ 1
part_small w small n m p = go (dec_lt p n)
  where
    go : Dec (p < n) → get_or (take n (drop m w)) p 0 ≤ 1
    go (yes h) = rw (get_or-take n (drop m w) p 0 h, get_or-drop m w p 0) (small (m + p))
    go (no h) =
        let short : length (take n (drop m w)) ≤ p = omega (arith, length-take n (drop m w)) in
        rw (get_or-eq_default (take n (drop m w)) 0 short) (omega arith)

module _ (J : Jobs) (list : ListAccepted J) where
  abbrev reach : List ℕ
  reach = replicate (count J) 0

  abbrev of : ℕ → ℕ
  of p = support (algebra J (job_of_word J.sizes p)) (get_or J.weights p 0)

  supports_small : (p : ℕ) → get_or (supports J) p 0 ≤ 1
  supports_small p = go (dec_lt p (length J.weights))
    where
      go : Dec (p < length J.weights) → get_or (supports J) p 0 ≤ 1
      go (yes h) =
          let x : ℕ = get_or J.weights p 0 in
          let a = algebra J (job_of_word J.sizes p) in
          rw (get_d_list_of (length J.weights) of p h) (support_word a x (ℕ_discrete x (none_word_of a)))
      go (no h) =
          rw (get_or-eq_default (supports J) 0 {n = p} (omega (arith, length_list_of (length J.weights) of))) (omega arith)

  pub supports_accepted : ListAccepted (jobs_of reach J.order J.sizes (supports J))
  supports_accepted = record {
    fits = record {
      ranged = list.fits.ranged;
      algebras_fit = length-replicate {A = ℕ} (count J) 0;
      sizes_fit = list.fits.sizes_fit;
    };
    numbers = λ q h. rw (reach_number (count J) q) (omega arith);
    weights_fit = length_list_of (length J.weights) of ∙ list.weights_fit;
    words = λ q p.
        rw (reach_algebra (count J) q)
        (part_small (supports J) supports_small (size J q * size J q) (offset J.sizes q) p);
  }

  pub supports_links : (q i j : ℕ) → q < count J → i < size J q → j < size J q
      → entries (size J q) (part_of J.sizes (supports J) q) i j ≡ support (algebra J q) (entries (size J q) (job_weights J q) i j)
  supports_links q i j hq hi hj =
      let n : ℕ = size J q in
      let at : ℕ = offset J.sizes q in
      let r : ℕ = i * n + j in
      let h : i * n + j < n * n = digits_lt hi hj in
      let below : at + r < length J.weights = omega (arith, list.weights_fit, offset_below J.sizes q (i * n + j) hq h) in
      rw (
        part_word J.sizes (supports J) q (i * n + j) h,
        part_word J.sizes J.weights q (i * n + j) h,
        get_d_list_of (length J.weights) of (at + (i * n + j)) below,
        job_of_word_lem J.sizes q (i * n + j) hq h,
      )

pub same_jobs_found : SameJobsFound
same_jobs_found algebras order sizes weights state e =
    let J = jobs_of algebras order sizes weights in
    let list = started_by algebras order sizes weights state e in
    let (_, (_, (_, (_, (_, (own, _)))))) = none_applied (start_table algebras order sizes weights state) refl e in (
      starts (supports_accepted J list) state (equal (length state) (state_length order) own),
      λ q hq i j hi hj d. support_agrees (algebra J q) (supports_links J list q i j hq hi hj),
    )
