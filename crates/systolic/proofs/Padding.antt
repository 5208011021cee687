-- A job that fits the array, and its padded table: where the job's own entries stand, the passes of N points are the job's own
-- elimination, because a padded point offers none.
use Prim.Native.Nat.{ℕ, zero, suc, ◌+◌, ◌*◌, ◌≤◌, ◌<◌}
use native.Mathlib.Omega.{arith}
use native.Mathlib.Decide.{ℕ_discrete}
use mathlib.Core.Path.{◌≡◌, refl, sym, ap, ◌∙◌}
use mathlib.Core.Bool.{Bool, true, false, cond, ◌&&◌}
use mathlib.Core.List.{List}
use lib.ListN.{get_or}
use lib.Dec.{ltb}
use borrow.Author.Tests.{lt-ltb, le-ltb, ne_eqb}
use Rattle.semiring.specs.Algebra.{Word, none_word_of, sum_of, product_of}
use Rattle.semiring.specs.declared.Algebra.{Algebra}
use Rattle.semiring.proofs.Laws.{laws}
use Rattle.closure.specs.Table.{entries, with_own}
use Rattle.closure.specs.Elimination.{passes, closure}
use Rattle.closure.proofs.Equations.{passes_none, passes-next, closure_passes}
use Rattle.closure.proofs.Links.{Links, with_own_links}
use Rattle.closure.proofs.Passes.{passes_word}
use Rattle.job_list.specs.Fits.{ListAccepted}
use Rattle.job_list.specs.Jobs.{Jobs, count, size, job_weights, algebra}
use Rattle.systolic.specs.Feeder.{padded_table, fed}

module _ (a : Algebra) (n : ℕ) (w : List ℕ) (words : (p : ℕ) → Word a (get_or w p 0)) where
  pub padded_links : Links a (padded_table a n w)
  padded_links =
      with_own_links a (λ i j. cond (ltb i n && ltb j n) (entries n w i j) (none_word_of a))
      (λ i j. choice (ltb i n && ltb j n) (words (i * n + j)))
    where
      choice : {x : ℕ} (b : Bool) → Word a x → Word a (cond b x (none_word_of a))
      choice true h = h
      choice false h = (laws a).none_word

  word : (m i j : ℕ) → Word a (passes a (padded_table a n w) m i j)
  word = passes_word padded_links

  -- none stays none where one of the two factors is none
  none_left : {x y : ℕ} → Word a y → x ≡ none_word_of a → sum_of a (none_word_of a) (product_of a x y) ≡ none_word_of a
  none_left v e = rw (e, (laws a).none_product v, (laws a).sum_idem (laws a).none_word)

  none_right : {x y : ℕ} → Word a x → y ≡ none_word_of a → sum_of a (none_word_of a) (product_of a x y) ≡ none_word_of a
  none_right v e = rw (e, (laws a).product_none v, (laws a).sum_idem (laws a).none_word)

  -- Off the diagonal, a row or a column outside n stays none.
  far_row : (m i j : ℕ) → n ≤ i → (i ≡ j → ⊥) → passes a (padded_table a n w) m i j ≡ none_word_of a
  far_row zero i j h d = rw (passes_none a (padded_table a n w), ne_eqb i j d, le-ltb i n h)
  far_row (suc m) i j h d =
      rw (passes-next a (padded_table a n w) m, far_row m i j h d) (go (far_row m i j h d) (far_row m i m h) (ℕ_discrete i m))
    where
      go : passes a (padded_table a n w) m i j ≡ none_word_of a → ((i ≡ m → ⊥) → passes a (padded_table a n w) m i m ≡ none_word_of a) → Dec (i ≡ m)
          → sum_of a (none_word_of a) (product_of a (passes a (padded_table a n w) m i m) (passes a (padded_table a n w) m m j)) ≡ none_word_of a
      go z f (yes e) = none_right (word m i m) (ap (λ (l : ℕ). passes a (padded_table a n w) m l j) (sym e) ∙ z)
      go z f (no e) = none_left (word m m j) (f e)

  far_column : (m i j : ℕ) → n ≤ j → (i ≡ j → ⊥) → passes a (padded_table a n w) m i j ≡ none_word_of a
  far_column zero i j h d = rw (passes_none a (padded_table a n w), ne_eqb i j d, le-ltb j n h) (off (ltb i n))
    where
      off : (b : Bool) → cond (b && false) (entries n w i j) (none_word_of a) ≡ none_word_of a
      off true = refl
      off false = refl
  far_column (suc m) i j h d =
      rw (passes-next a (padded_table a n w) m, far_column m i j h d) (go (far_column m i j h d) (far_column m m j h) (ℕ_discrete m j))
    where
      go : passes a (padded_table a n w) m i j ≡ none_word_of a → ((m ≡ j → ⊥) → passes a (padded_table a n w) m m j ≡ none_word_of a) → Dec (m ≡ j)
          → sum_of a (none_word_of a) (product_of a (passes a (padded_table a n w) m i m) (passes a (padded_table a n w) m m j)) ≡ none_word_of a
      go z f (yes e) = none_left (word m m j) (ap (λ (l : ℕ). passes a (padded_table a n w) m i l) e ∙ z)
      go z f (no e) = none_right (word m i m) (f e)

  -- The points of the job pass as they do in the job's own table, and the points behind them change nothing there.
  inner_passes : (m i j : ℕ) → m ≤ n → i < n → j < n → passes a (padded_table a n w) m i j ≡ passes a (with_own a (entries n w)) m i j
  inner_passes zero i j h hi hj = rw (passes_none a (padded_table a n w), passes_none a (with_own a (entries n w)), lt-ltb i n hi, lt-ltb j n hj)
  inner_passes (suc m) i j h hi hj =
      let u : m ≤ n = omega arith in
      rw (passes-next a (padded_table a n w) m, passes-next a (with_own a (entries n w)) m)
      (rw (inner_passes m i j u hi hj, inner_passes m i m u hi h, inner_passes m m j u h hj))

  outer_passes : (m i j : ℕ) → n ≤ m → i < n → j < n → passes a (padded_table a n w) m i j ≡ passes a (padded_table a n w) n i j
  outer_passes zero i j h hi hj = absurd (omega arith)
  outer_passes (suc m) i j h hi hj = go (λ l. outer_passes m i j l hi hj) (ℕ_discrete n (suc m))
    where
      go : (n ≤ m → passes a (padded_table a n w) m i j ≡ passes a (padded_table a n w) n i j) → Dec (n ≡ suc m)
          → passes a (padded_table a n w) (suc m) i j ≡ passes a (padded_table a n w) n i j
      go f (yes e) = ap (λ (l : ℕ). passes a (padded_table a n w) l i j) (sym e)
      go f (no e) =
          let l : n ≤ m = omega arith in
          rw (passes-next a (padded_table a n w) m, far_column m i m l (λ d. omega arith), (laws a).none_product (word m m j), (laws a).sum_none (word m i j)) (f l)

  pub padded_passes : {m : ℕ} (i j : ℕ) → n ≤ m → i < n → j < n → passes a (padded_table a n w) m i j ≡ closure a n w i j
  padded_passes {m} i j h hi hj =
      rw (closure_passes a n w) (outer_passes m i j h hi hj ∙ inner_passes n i j (omega arith) hi hj)

module _ {J : Jobs} (list : ListAccepted J) where
  pub fed_links : (q : ℕ) → Links (algebra J q) (fed J q)
  fed_links q = padded_links (algebra J q) (size J q) (job_weights J q) (list.words q)

  -- The passes of the fed table give the job's own elimination.
  pub fed_passes : {q i k : ℕ} → q < count J → i < size J q → k < size J q
      → passes (algebra J q) (fed J q) J.order i k ≡ closure (algebra J q) (size J q) (job_weights J q) i k
  fed_passes {q} {i} {k} hq = padded_passes (algebra J q) (size J q) (job_weights J q) (list.words q) i k (list.fits.sizes_fit q hq).1
