-- Where the jobs' parts lie in a list's words, and their entries: no two at one place, and no place without one.
use Prim.Native.Nat.{ℕ, zero, suc, ◌+◌, ◌-◌, ◌*◌, ◌/◌, ◌%◌, ◌≤◌, ◌<◌}
use native.Mathlib.Nat.{div-add-mod', div-lt_iff_lt-mul, mod-lt, not-suc-le-zero}
use native.Mathlib.Numerals.{add-one}
use native.Mathlib.Omega.{arith}
use native.Mathlib.Decide.{dec_lt}
use mathlib.Core.Path.{◌≡◌, refl, sym, ap, ◌∙◌}
use mathlib.Core.List.{List, [], ◌∷◌}
use lib.ListN.{length, get_or, drop, length-take, length-drop}
use lib.Seq.{get_or-take, get_or-drop}
use lib.Arith.{digits_lt}
use Rattle.job_list.specs.Jobs.{Jobs, Entry, size, offset, words_of, part_of, place}
use Rattle.job_list.specs.claims.Places.{RowByRow}
use Rattle.memory.proofs.Geometry.{same_digits}

pub offset_none : (sizes : List ℕ) → offset sizes 0 ≡ 0
unfolding offset
offset_none [] = refl
offset_none (n ∷ sizes) = refl

-- One job more.
pub offset_next : (sizes : List ℕ) (q : ℕ) → q < length sizes → offset sizes (suc q) ≡ offset sizes q + get_or sizes q 0 * get_or sizes q 0
unfolding offset
offset_next [] q h = absurd (not-suc-le-zero h)
offset_next (n ∷ sizes) zero h = omega arith
offset_next (n ∷ sizes) (suc q) h = omega (arith, offset_next sizes q (omega arith))

-- The same in the words of the code.
pub offset_one : (sizes : List ℕ) (q : ℕ) → q < length sizes → offset sizes (q + 1) ≡ offset sizes q + get_or sizes q 0 * get_or sizes q 0
offset_one sizes q h = rw (add-one q) (offset_next sizes q h)

-- A job's part is within the words of the list.
pub part_within : (sizes : List ℕ) (q : ℕ) → q < length sizes → offset sizes q + get_or sizes q 0 * get_or sizes q 0 ≤ words_of sizes
unfolding offset
part_within [] q h = absurd (not-suc-le-zero h)
part_within (n ∷ sizes) zero h = omega arith
part_within (n ∷ sizes) (suc q) h = omega (arith, part_within sizes q (omega arith))

-- Word r of job q's part is one of the list's words.
pub offset_below : (sizes : List ℕ) (q r : ℕ) → q < length sizes → r < get_or sizes q 0 * get_or sizes q 0 → offset sizes q + r < words_of sizes
unfolding offset
offset_below [] q r h k = absurd (not-suc-le-zero h)
offset_below (n ∷ sizes) zero r h k = omega arith
offset_below (n ∷ sizes) (suc q) r h k = omega (arith, offset_below sizes q r (omega arith) k)

-- Which one, of the words that are there.
pub part_word : (sizes weights : List ℕ) (q r : ℕ) → r < get_or sizes q 0 * get_or sizes q 0 → get_or (part_of sizes weights q) r 0 ≡ get_or weights (offset sizes q + r) 0
part_word sizes weights q r h =
    get_or-take (get_or sizes q 0 * get_or sizes q 0) (drop (offset sizes q) weights) r 0 h ∙ get_or-drop (offset sizes q) weights r 0

pub part_there : (sizes weights : List ℕ) (q r : ℕ) → r < length (part_of sizes weights q)
    → (r < get_or sizes q 0 * get_or sizes q 0) × (offset sizes q + r < length weights)
part_there sizes weights q r h =
    let n : ℕ = get_or sizes q 0 in
    let at : ℕ = offset sizes q in
    let taken = length-take (n * n) (drop at weights) in
    let dropped = length-drop at weights in
    (omega arith, omega arith)

pub row_by_row_lem : RowByRow
row_by_row_lem J words q i k row column = sym (part_word J.sizes words q (i * size J q + k) (digits_lt row column))

offset_same : (sizes : List ℕ) (q r q' r' : ℕ) → q < length sizes → q' < length sizes
    → r < get_or sizes q 0 * get_or sizes q 0 → r' < get_or sizes q' 0 * get_or sizes q' 0
    → offset sizes q + r ≡ offset sizes q' + r' → (q ≡ q') × (r ≡ r')
unfolding offset
offset_same [] q r q' r' h h' k k' e = absurd (not-suc-le-zero h)
offset_same (n ∷ sizes) zero r zero r' h h' k k' e = (refl, omega arith)
offset_same (n ∷ sizes) zero r (suc q') r' h h' k k' e = absurd (omega arith)
offset_same (n ∷ sizes) (suc q) r zero r' h h' k k' e = absurd (omega arith)
offset_same (n ∷ sizes) (suc q) r (suc q') r' h h' k k' e =
    let (f, g) = offset_same sizes q r q' r' (omega arith) (omega arith) k k' (omega arith) in
    (ap suc f, g)

pub offset_find : (sizes : List ℕ) (p : ℕ) → p < words_of sizes
    → (q : ℕ) × (r : ℕ) × (q < length sizes) × (r < get_or sizes q 0 * get_or sizes q 0) × (p ≡ offset sizes q + r)
unfolding offset
offset_find [] p h = absurd (not-suc-le-zero h)
offset_find (n ∷ sizes) p h = go (dec_lt p (n * n)) (offset_find sizes (p - n * n))
  where
    Found : Type 0
    Found =
        (q : ℕ) × (r : ℕ) × (q < suc (length sizes)) × (r < get_or (n ∷ sizes) q 0 * get_or (n ∷ sizes) q 0)
        × (p ≡ offset (n ∷ sizes) q + r)

    go : Dec (p < n * n)
        → (p - n * n < words_of sizes
        → (q : ℕ) × (r : ℕ) × (q < length sizes) × (r < get_or sizes q 0 * get_or sizes q 0) × (p - n * n ≡ offset sizes q + r))
        → Found
    go (yes l) f = (0, p, omega arith, l, omega arith)
    go (no l) f = let (q, r, h, k, e) = f (omega arith) in (suc q, r, omega arith, k, omega arith)

module _ {J : Jobs} where
  pub entry_below : {q i k : ℕ} → Entry J q i k → place J q i k < words_of J.sizes
  entry_below {q} {i} {k} at =
      offset_below J.sizes q (i * size J q + k) at.job (digits_lt at.row at.column)

  pub entry_same : {q i k q' i' k' : ℕ} → Entry J q i k → Entry J q' i' k' → place J q i k ≡ place J q' i' k'
      → (q ≡ q') × (i ≡ i') × (k ≡ k')
  entry_same {q} {i} {k} {q'} {i'} {k'} at at' e =
      let (f, g) =
      offset_same J.sizes q (i * size J q + k) q' (i' * size J q' + k') at.job at'.job (digits_lt at.row at.column)
      (digits_lt at'.row at'.column) e in
      let h : k' < size J q = rw f at'.column in
      let g' : i * size J q + k ≡ i' * size J q + k' = rw (← f) at g in
      let (u, v) = same_digits {n = size J q} {x = i} {x' = i'} at.column h (omega arith) in
      (f, u, v)

  pub entry_find : (p : ℕ) → p < words_of J.sizes → (q : ℕ) × (i : ℕ) × (k : ℕ) × Entry J q i k × (p ≡ place J q i k)
  entry_find p h =
      let (q, r, hq, hr, e) = offset_find J.sizes p h in
      let n : ℕ = size J q in
      let pos : 1 ≤ n = positive n hr in (
        q,
        r / n,
        r % n,
        record { job = hq; row = (div-lt_iff_lt-mul {k = n} {x = r} {y = n} pos).1 hr; column = mod-lt r pos },
        rw (div-add-mod' r n) e,
      )
    where
      positive : {r : ℕ} (n : ℕ) → r < n * n → 1 ≤ n
      positive zero h = absurd (omega arith)
      positive (suc n) h = omega arith
