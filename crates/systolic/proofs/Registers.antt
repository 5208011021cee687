-- What the registers of a cell hold within one job, by how far they have come: never better than the elimination of the fed
-- table t, and as good as stated. N is the array's order. The laws of the algebra alone are used.
use Prim.Native.Nat.{ℕ, zero, suc, ◌+◌, ◌*◌, ◌≤◌, ◌<◌, zero-le, min}
use native.Mathlib.Omega.{arith}
use native.Mathlib.Decide.{dec_lt, ℕ_discrete}
use mathlib.Core.Path.{◌≡◌}
use Rattle.semiring.specs.Algebra.{none_word_of, sum_of, product_of}
use Rattle.semiring.specs.declared.Algebra.{Algebra}
use Rattle.semiring.proofs.Laws.{laws}
use Rattle.semiring.proofs.Order.{
  AsGood,
  good_refl,
  good_trans,
  sum_good_left,
  sum_good_right,
  good_sum,
  good_none,
  product_good,
}
use Rattle.closure.specs.Table.{Table}
use Rattle.closure.specs.Elimination.{passes}
use Rattle.closure.proofs.Equations.{passes_none, passes-next}
use Rattle.closure.proofs.Links.{Links}
use Rattle.closure.proofs.Passes.{passes_word, passes_better, column_still, row_still, triangle}
use Rattle.memory.proofs.Geometry.{same_digits}

-- What pass m of the elimination offers to entry (i, j).
abbrev pub offer : Algebra → Table → ℕ → ℕ → ℕ → ℕ
offer a t m i j = product_of a (passes a t m i m) (passes a t m m j)

-- The pass of the array, 0 to 2, in which point m's offer reaches cell (i, j) in full.
pub data Arrives (i j m : ℕ) : ℕ → Type 0 where
  below : m < i → m < j → Arrives i j m 0
  across : i < m → m < j → Arrives i j m 1
  back : j < m → m < i → Arrives i j m 1
  any : Arrives i j m 2

-- x is register c of cell (i, j) after n of its steps for the job.
pub record Staying (a : Algebra) (t : Table) (order i j n x : ℕ) : Type 0 where
  pub above : AsGood a (passes a t order i j) x
  pub begun : min i j < n → AsGood a x (t i j)
  pub absorbed : {u m : ℕ} → Arrives i j m u → m < order → order * u + m < n → AsGood a x (offer a t m i j)

-- x is a word that moves along a row or column: it belongs to entry (i, j), it is replaced in the cell at `key`, and it has
-- passed v cells for the job.
pub record Moving (a : Algebra) (t : Table) (order key i j v x : ℕ) : Type 0 where
  pub above : AsGood a (passes a t order i j) x
  pub entered : AsGood a x (t i j)
  pub first : (m : ℕ) → key < v → m ≤ i → m ≤ j → AsGood a x (passes a t m i j)
  pub second : order + key < v → AsGood a x (passes a t key i j)

-- A digit that differs makes "at most" strict.
strict : (u p : ℕ) {n k j : ℕ} → k < n → j < n → (k ≡ j → ⊥) → n * u + k < n * p + j + 1 → n * u + k < n * p + j
strict u p {n} {k} {j} hk hj d h = go (dec_lt (n * u + k) (n * p + j))
  where
    go : Dec (n * u + k < n * p + j) → n * u + k < n * p + j
    go (yes l) = l
    go (no l) = absurd (d (same_digits {x = u} {x' = p} hk hj (omega arith)).1)

module _ {a : Algebra} {t : Table} (links : Links a t) where
  -- as good as the given entry and as each offer of the points below m is as good as m passes
  gathered : {i j x : ℕ} (m : ℕ) → AsGood a x (t i j)
      → ((l : ℕ) → l < m → (l ≡ i → ⊥) → (l ≡ j → ⊥) → AsGood a x (offer a t l i j))
      → AsGood a x (passes a t m i j)
  gathered zero e f = rw (passes_none a t) e
  gathered {i} {j} {x} (suc m) e f = go (gathered m e (λ l h. f l (omega arith))) (ℕ_discrete m i) (ℕ_discrete m j)
    where
      go : AsGood a x (passes a t m i j) → Dec (m ≡ i) → Dec (m ≡ j) → AsGood a x (passes a t (suc m) i j)
      go g (yes u) d =
          let still : passes a t (suc m) i j ≡ passes a t m i j = rw (← u) (row_still links m j) in
          rw still g
      go g (no u) (yes v) =
          let still : passes a t (suc m) i j ≡ passes a t m i j = rw (← v) (column_still links m i) in
          rw still g
      go g (no u) (no v) = rw (passes-next a t m) (good_sum g (f m (omega arith) u v))

  module _ {order : ℕ} where
    -- A word is fed, and c starts from none.
    pub fed_moving : (key i j : ℕ) → Moving a t order key i j 0 (t i j)
    fed_moving key i j = record {
      above = rw (passes_none a t) at (passes_better links {m = 0} {m' = order} i j zero-le);
      entered = good_refl (links.word i j);
      first = λ m h. absurd (omega arith);
      second = λ h. absurd (omega arith);
    }

    pub none_summed : (i j : ℕ) → Staying a t order i j 0 (none_word_of a)
    none_summed i j = record {
      above = good_none (passes_word links order i j);
      begun = λ h. absurd (omega arith);
      absorbed = λ r k h. absurd (omega arith);
    }

    -- A step: the word of point k in row i, and the word of point k in column j, meet in cell (i, j) in pass p.
    module _ {k i j : ℕ} (hk : k < order) (hi : i < order) (hj : j < order) where
      -- Where point k's offer is due, the two words are as good as its parts.
      offered : {p x y : ℕ} → Arrives i j k p → Moving a t order k i k (order * p + j) x → Moving a t order k k j (order * p + i) y
          → AsGood a (product_of a x y) (offer a t k i j)
      offered (below u v) x y =
          product_good (x.first k (omega arith) (omega arith) (omega arith)) (y.first k (omega arith) (omega arith) (omega arith))
      offered (across u v) x y = product_good (x.second (omega arith)) (y.first k (omega arith) (omega arith) (omega arith))
      offered (back u v) x y = product_good (x.first k (omega arith) (omega arith) (omega arith)) (y.second (omega arith))
      offered any x y = product_good (x.second (omega arith)) (y.second (omega arith))

      -- On the diagonal one of them is the own word, and the other the given entry.
      entry_offered : {x y : ℕ} → min i j ≡ k → AsGood a x (t i k) → AsGood a y (t k j) → AsGood a (product_of a x y) (t i j)
      entry_offered {x} {y} e gx gy = go (ℕ_discrete i k)
        where
          go : Dec (i ≡ k) → AsGood a (product_of a x y) (t i j)
          go (yes u) =
              let f : product_of a (t i k) (t k j) ≡ t i j =
              rw (← u, links.own i, (laws a).own_product (links.word i j)) in
              rw f at (product_good gx gy)
          go (no u) =
              let v : j ≡ k = omega arith in
              let f : product_of a (t i k) (t k j) ≡ t i j =
              rw (← v, links.own j, (laws a).product_own (links.word i j)) in
              rw f at (product_good gx gy)

      pub sum_summed : (p : ℕ) {x y z : ℕ} → Staying a t order i j (order * p + k) z
          → Moving a t order k i k (order * p + j) x → Moving a t order k k j (order * p + i) y
          → Staying a t order i j (order * p + k + 1) (sum_of a z (product_of a x y))
      sum_summed p {x} {y} {z} c row column = record {
        above =
            good_sum c.above (good_trans (triangle links i j hk) (product_good row.above column.above));
        begun = λ h. begun (dec_lt (min i j) (order * p + k)) h;
        absorbed = λ {u} {m} r hm h. absorbed r hm (dec_lt (order * u + m) (order * p + k)) h;
      }
        where
          old : AsGood a (sum_of a z (product_of a x y)) z
          old = sum_good_left c.above.right ((laws a).product_word row.above.right column.above.right)

          new : AsGood a (sum_of a z (product_of a x y)) (product_of a x y)
          new = sum_good_right c.above.right ((laws a).product_word row.above.right column.above.right)

          begun : Dec (min i j < order * p + k) → min i j < order * p + k + 1 → AsGood a (sum_of a z (product_of a x y)) (t i j)
          begun (yes l) h = good_trans old (c.begun l)
          begun (no l) h =
              let e : order * 0 + min i j ≡ order * p + k = omega arith in
              good_trans new
              (entry_offered (same_digits {x = 0} {x' = p} (omega arith) hk e).1 row.entered column.entered)

          absorbed : {u m : ℕ} → Arrives i j m u → m < order → Dec (order * u + m < order * p + k) → order * u + m < order * p + k + 1
              → AsGood a (sum_of a z (product_of a x y)) (offer a t m i j)
          absorbed r hm (yes l) h = good_trans old (c.absorbed r hm l)
          absorbed {u} {m} r hm (no l) h =
              let (e, f) = same_digits {x = u} {x' = p} hm hk (omega arith) in
              rw f (good_trans new (offered (rw (e, f) at r) row column))

      -- The fourth pass adds nothing, and nothing is missing.
      pub kept_summed : (p : ℕ) {x : ℕ} → order * 3 ≤ order * p → Staying a t order i j (order * p + k) x
          → Staying a t order i j (order * p + k + 1) x
      kept_summed p {x} late c = record {
        above = c.above;
        begun = λ h. c.begun (omega arith);
        absorbed = λ {u} {m} r hm h. c.absorbed r hm (by_then r hm);
      }
        where
          by_then : {u m : ℕ} → Arrives i j m u → m < order → order * u + m < order * p + k
          by_then (below x y) hm = omega arith
          by_then (across x y) hm = omega arith
          by_then (back x y) hm = omega arith
          by_then any hm = omega arith

    -- Past the third pass c is as good as the elimination.
    pub summed_all : {i j n x : ℕ} → i < order → j < order → order * 3 ≤ n → Staying a t order i j n x
        → AsGood a x (passes a t order i j)
    summed_all {i} hi hj h c =
        gathered order (c.begun (omega arith)) (λ m hm u v. c.absorbed any hm (omega arith))

    -- The new c as a word that moves on: from cell (i, k) along row i, from cell (k, j) along column j.
    pub row_taken : (p : ℕ) {k i x : ℕ} → k < order → Staying a t order i k (order * p + k + 1) x
        → Moving a t order k i k (order * p + k + 1) x
    row_taken p {k} {i} {x} hk c = record {
      above = c.above;
      entered = entry;
      first = λ m h mi mk. gathered m entry (λ l hl u v. c.absorbed (below (omega arith) (omega arith)) (omega arith) (omega arith));
      second = λ h. gathered k entry (λ l hl u v. inner l hl u h (dec_lt l i));
    }
      where
        entry : AsGood a x (t i k)
        entry = c.begun (omega arith)

        inner : (l : ℕ) → l < k → (l ≡ i → ⊥) → order + k < order * p + k + 1 → Dec (l < i) → AsGood a x (offer a t l i k)
        inner l hl u h (yes b) = c.absorbed (below b hl) (omega arith) (omega arith)
        inner l hl u h (no b) = c.absorbed (across (omega arith) hl) (omega arith) (omega arith)

    pub column_taken : (p : ℕ) {k j x : ℕ} → k < order → Staying a t order k j (order * p + k + 1) x
        → Moving a t order k k j (order * p + k + 1) x
    column_taken p {k} {j} {x} hk c = record {
      above = c.above;
      entered = entry;
      first = λ m h mk mj. gathered m entry (λ l hl u v. c.absorbed (below (omega arith) (omega arith)) (omega arith) (omega arith));
      second = λ h. gathered k entry (λ l hl u v. inner l hl v h (dec_lt l j));
    }
      where
        entry : AsGood a x (t k j)
        entry = c.begun (omega arith)

        inner : (l : ℕ) → l < k → (l ≡ j → ⊥) → order + k < order * p + k + 1 → Dec (l < j) → AsGood a x (offer a t l k j)
        inner l hl u h (yes b) = c.absorbed (below hl b) (omega arith) (omega arith)
        inner l hl u h (no b) = c.absorbed (back (omega arith) hl) (omega arith) (omega arith)

    -- A word that passes a cell other than its key, or any cell in the fourth pass.
    pub passed : (p : ℕ) {c key i j x : ℕ} → key < order → c < order → (key ≡ c → ⊥)
        → Moving a t order key i j (order * p + c) x → Moving a t order key i j (order * p + c + 1) x
    passed p hk hc d w = record {
      above = w.above;
      entered = w.entered;
      first = λ m h mi mj. let s = strict 0 p hk hc d (omega arith) in w.first m (omega (arith, s)) mi mj;
      second = λ h. let s = strict 1 p hk hc d (omega arith) in w.second (omega (arith, s));
    }

    pub passed_late : (p c : ℕ) {key i j x : ℕ} → order * 3 ≤ order * p → key < order
        → Moving a t order key i j (order * p + c) x → Moving a t order key i j (order * p + c + 1) x
    passed_late p c late hk w = record {
      above = w.above;
      entered = w.entered;
      first = λ m h mi mj. w.first m (omega arith) mi mj;
      second = λ h. w.second (omega arith);
    }
